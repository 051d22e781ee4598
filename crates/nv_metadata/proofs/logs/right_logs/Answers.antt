use Rattle.std.proofs.Common.{ℕ, subst}
use Rattle.nv_metadata.specs.Walk.{AreLogsAmong}
use Rattle.nv_metadata.proofs.SameLogs.{among_all}
use Rattle.nv_metadata.proofs.logs.right_logs.Goals as goal

pub returns-clause-all : goal.returns-clause-all
returns-clause-all g c =
    let U = g.P.Pmem.region c.args.memory.now in
    let s = c.args.sup.now in
    (among_all U s c.in_ok-logs.logs.items c.requires.layout (subst (λ (n : ℕ). AreLogsAmong U s 1 n c.in_ok-logs.logs.items) c.inode_limit.ensures c.in_ok-logs.ensures)).all

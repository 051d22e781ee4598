use Rattle.nv_paths.specs.Seen.{tree_of, node_of}
use Rattle.nv_calls.proofs.Stated.{numbers_of}
use Rattle.nv_calls.proofs.fs.Fs.stat.Goals as goal

pub returns-clause-ok : goal.returns-clause-ok
returns-clause-ok g c names p =
    let region = g.P.Pmem.region c.args.self.now.memory in
    numbers_of (tree_of region c.args.self.now.rows) names c.in_ok-target.field-0.now.inode (node_of region c.in_ok-target.field-0.now) c.stat_of.result (c.in_ok-target.ensures.row names p) c.stat_of.ensures

use Rattle.std.proofs.Common.{◌+◌, ◌-◌, ◌/◌, ℕ, List, subst, sym}
use Rattle.std.specs.Result.{IfOk}
use Rattle.nv_metadata.specs.Walk.{AreLogsAmong}
use Rattle.nv_metadata.specs.declared.logs.LogEnds.{LogEnds}
use Rattle.nv_metadata.proofs.SameLogs.{among_both}
use Rattle.nv_metadata.proofs.logs.+fn-right_logs_apart-join+arg2+fn-right_logs_apart-join+arg3+right_logs_apart.Goals as goal

pub returns : goal.returns
returns g t c =
    let U = g.P.Pmem.region c.args.memory.now in
    let s = c.args.sup.now in
    let middle : ℕ = c.args.from + (c.args.to - c.args.from) / 2 in
    let here : AreLogsAmong U s c.args.from middle c.in_ok-logs.logs.items = subst (λ (r : _). IfOk r (λ v. AreLogsAmong U s c.args.from middle v.items)) c.in_ok-logs.was c.join-left.ensures.first in
    let there : AreLogsAmong U s middle c.args.to c.in_ok-more.more.items = subst (λ (r : _). IfOk r (λ v. AreLogsAmong U s middle c.args.to v.items)) c.in_ok-more.was c.join-left.ensures.second in
    subst (λ (l : List LogEnds). AreLogsAmong U s c.args.from c.args.to l) (sym c.in_ok-append.ensures.items)
    (among_both U s c.args.from middle c.args.to c.in_ok-logs.logs.items c.in_ok-more.more.items here there)

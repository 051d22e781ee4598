use Rattle.std.proofs.Common.{sym, ap, ◌∙◌, ◌+◌, subst, List, arith}
use Rattle.std.proofs.lemmas.Option.{same_Some}
use Rattle.nv_metadata.specs.Walk.{AreLogsAmong}
use Rattle.nv_metadata.specs.declared.logs.LogEnds.{LogEnds}
use Rattle.nv_metadata.proofs.SameLogs.{among_none, among_some, among_no_more, among_fewer}
use Rattle.nv_metadata.proofs.logs.right_logs_among.Goals.{in-Some+in_ok-push, in_default}
use Rattle.nv_metadata.proofs.logs.right_logs_among.Goals as goal

pub loop-place-init : goal.loop-place-init
loop-place-init g c = among_none (g.P.Pmem.region c.args.memory.now) c.args.sup.now c.args.from _ c.new-logs.ensures.items

pub loop-place-preserved : goal.loop-place-preserved
loop-place-preserved g c =
    let U = g.P.Pmem.region c.args.memory.now in
    let s = c.args.sup.now in
    let n = c.loop-place.place in
    elim c.match-right_log.branch [
      | in-Some+in_ok-push w ↦ subst (λ (xs : List LogEnds). AreLogsAmong U s c.args.from (n + 1) xs) (sym (ap (λ (v : _). v.items) w.logs-is ∙ w.in_ok-push.ensures.items))
          (among_some U s c.args.from n c.loop-place.logs.items w.in-Some.log c.requires.layout c.loop-place.invariant
          (λ i head tail l. same_Some w.in-Some.log (record { head = head; tail = tail }) (sym w.in-Some.is ∙ c.right_log.ensures.all i head tail l)) (w.in-Some.ensures.only.0, _, w.in-Some.ensures.only.1))
      | in_default w ↦ subst (λ (xs : List LogEnds). AreLogsAmong U s c.args.from (n + 1) xs) (sym (ap (λ (v : _). v.items) w.logs-is))
          (among_no_more U s c.args.from n c.loop-place.logs.items c.requires.layout c.loop-place.invariant (λ i head tail l. w.in_default.not-Some (record { head = head; tail = tail }) (c.right_log.ensures.all i head tail l)))
    ]

pub returns : goal.returns
returns g c = among_fewer (g.P.Pmem.region c.args.memory.now) c.args.sup.now c.args.from c.args.to c.loop-place.place c.loop-place.logs.items (omega (arith, c.loop-place-test.false)) c.loop-place.invariant

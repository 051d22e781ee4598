use Rattle.std.proofs.Common.{◌+◌, ◌∙◌, List, drop, get_or, subst, sym, arith}
use Rattle.nv_super.specs.declared.owners.Run.{Run}
use Rattle.nv_alloc.specs.FreeLists.{JoinAll}
use Rattle.nv_bytes.proofs.StoredPages.{runs_from}
use Rattle.nv_steps.specs.Writes.{CanGive}
use Rattle.nv_steps.proofs.EntrySteps.{first_can_join, rest_can_be_given}
use Rattle.nv_steps.proofs.giving.give_all.Goals as goal

abbrev none : Run
none = record { start = 0; count = 0 }

pub give-requires-clause-can_join : goal.give-requires-clause-can_join
give-requires-clause-can_join c =
    let runs = c.args.runs.now in
    let i = c.loop-run.run-index in
    first_can_join c.loop-run.free (get_or runs i none) (drop (i + 1) runs) (subst (CanGive c.loop-run.free) (runs_from runs i none c.loop-run-test.true) c.loop-run.invariant.1)

pub loop-run-preserved : goal.loop-run-preserved
loop-run-preserved c =
    let runs = c.args.runs.now in
    let i = c.loop-run.run-index in
    let kept = c.loop-run.invariant in (
      λ final j. kept.0 final (subst (λ (xs : List Run). JoinAll c.loop-run.free xs final) (sym (runs_from runs i none c.loop-run-test.true)) (c.give.new.self, c.give.ensures.joined, j)),
      rest_can_be_given c.loop-run.free c.give.new.self (get_or runs i none) (drop (i + 1) runs) (subst (CanGive c.loop-run.free) (runs_from runs i none c.loop-run-test.true) kept.1) c.give.ensures.joined,
      c.give.ensures.joined.sup ∙ kept.2,
      omega (arith, kept.3, c.give.ensures.room),
    )

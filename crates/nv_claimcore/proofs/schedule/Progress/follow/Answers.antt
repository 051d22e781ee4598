use Rattle.std.proofs.Common.{ℕ, List, get_or, take, sym, ap, subst, arith}
use Rattle.std.proofs.lemmas.List.{take_more}
use Rattle.nv_claimcore.specs.declared.view.Sizes.{Sizes}
use Rattle.nv_claimcore.specs.Replay.{lists}
use Rattle.nv_claimcore.specs.Turns.{TookTurns}
use Rattle.nv_claimcore.proofs.Courses.{more_turns, no_stranger}
use Rattle.nv_claimcore.proofs.schedule.Progress.follow.Goals as goal

pub step-requires-clause-worker : goal.step-requires-clause-worker
step-requires-clause-worker c = let here = c.loop-worker-test.true in let named = no_stranger c.args.self.now.sizes.workers c.args.schedule.now c.requires.named c.loop-worker.worker-index here in
    let sizes = ap (λ (z : Sizes). z.workers) c.loop-worker.invariant.goes_on.sizes in omega arith

pub loop-worker-preserved : goal.loop-worker-preserved
loop-worker-preserved c = let here = c.loop-worker-test.true in
    subst (λ (ws : List ℕ). TookTurns (lists c.args.work.now) ws c.args.self.now c.step.new.self) (sym (take_more c.args.schedule.now c.loop-worker.worker-index 0 here))
    (more_turns (lists c.args.work.now) (take c.loop-worker.worker-index c.args.schedule.now) (get_or c.args.schedule.now c.loop-worker.worker-index 0) c.args.self.now c.loop-worker.self c.step.new.self c.in_ok-step.field-0 c.loop-worker.invariant c.in_ok-step.ensures)

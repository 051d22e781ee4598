use Rattle.nv_unpack.proofs.Going.{Going}
use Rattle.nv_unpack.proofs.making.make_steps.Given as goal

abbrev pub invariant-loop-step : goal.invariant-loop-step
invariant-loop-step l = Going l.base l.maker l.steps l.fn.mount l.mount l.step-index

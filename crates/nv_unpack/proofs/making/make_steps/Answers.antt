use Rattle.nv_unpack.proofs.Going.{begins, goes_on, halted}
use Rattle.nv_unpack.proofs.making.make_steps.Goals as goal

pub loop-step-init : goal.loop-step-init
loop-step-init c = begins c.args.base.now c.args.maker c.args.steps.now c.args.mount.now c.requires

pub loop-step-preserved : goal.loop-step-preserved
loop-step-preserved c =
    goes_on c.args.base.now c.args.maker c.args.steps.now c.args.mount.now c.loop-step.mount c.loop-step.step-index c.loop-step.invariant _ c.loop-step-test.true c.make_step.new.mount c.make_step.ensures.goes
    c.in_default.ensures.made

pub returns-in-Err-clause-refused : goal.returns-in-Err-clause-refused
returns-in-Err-clause-refused c =
    halted c.args.base.now c.args.maker c.args.steps.now c.args.mount.now c.loop-step.mount c.loop-step.step-index c.loop-step.invariant _ c.loop-step-test.true c.make_step.new.mount c.make_step.ensures.goes
    c.in-Err.halt c.in-Err.ensures.refused

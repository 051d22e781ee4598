use Rattle.nv_steps.proofs.Singles.{takes_one}
use Rattle.nv_steps.proofs.blocks.take_one.Goals as goal

pub returns-in-Ok-clause-took : goal.returns-in-Ok-clause-took
returns-in-Ok-clause-took c =
    takes_one c.args.free.now c.take.new.self c.args.cpu c.in-Ok.runs.items c.index.result.now c.take.ensures.sound_before c.take.ensures.sound c.requires c.in-Ok.ensures.ok c.in-Ok.ensures.leave c.index.ensures

pub returns-in-Ok-clause-err : goal.returns-in-Ok-clause-err
returns-in-Ok-clause-err c = tt

pub returns-in-Err-clause-took : goal.returns-in-Err-clause-took
returns-in-Err-clause-took c = tt

pub returns-in-Err-clause-err : goal.returns-in-Err-clause-err
returns-in-Err-clause-err c = c.in-Err.ensures.unchanged

pub take-requires : goal.take-requires
take-requires c = record { cpu = c.requires }

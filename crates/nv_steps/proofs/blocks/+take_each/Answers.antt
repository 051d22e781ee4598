use Rattle.std.proofs.Common.{arith}
use Rattle.std.proofs.lemmas.Result.{IfOk-from_err}
use Rattle.nv_region.proofs.Told.{told_err}
use Rattle.nv_steps.proofs.Singles.{one_can_join, one_given_back, onto_more, onto_none}
use Rattle.nv_steps.proofs.blocks.+take_each.Goals as goal

pub returns-then-count-eq0-clause-ok : goal.returns-then-count-eq0-clause-ok
returns-then-count-eq0-clause-ok t c = onto_none c.args.free.now c.args.cpu c.args.blocks.now.items c.args.count c.if-count-eq0.true

pub returns-then-count-eq0-clause-err : goal.returns-then-count-eq0-clause-err
returns-then-count-eq0-clause-err t c = tt

pub returns-then-count-eq0-clause-room_left : goal.returns-then-count-eq0-clause-room_left
returns-then-count-eq0-clause-room_left t c = tt

pub take_one-requires : goal.take_one-requires
take_one-requires t c = c.requires.cpu

pub returns-in_err-block-clause-ok : goal.returns-in_err-block-clause-ok
returns-in_err-block-clause-ok t c = IfOk-from_err c.from_residual.result _ c.from_residual.ensures.0

pub returns-in_err-block-clause-room : goal.returns-in_err-block-clause-room
returns-in_err-block-clause-room t c = IfOk-from_err c.from_residual.result _ c.from_residual.ensures.0

pub returns-in_err-block-clause-err : goal.returns-in_err-block-clause-err
returns-in_err-block-clause-err t c = let same = c.in_err-block.ensures.err in told_err c.from_residual.result (record { sup = same.sup; pools = same.pools })

pub returns-in_err-block-clause-room_left : goal.returns-in_err-block-clause-room_left
returns-in_err-block-clause-room_left t c = let same = c.in_err-block.ensures.err in told_err c.from_residual.result (omega (arith, same.room))

pub push_reserved-requires : goal.push_reserved-requires
push_reserved-requires t c = omega (arith, c.requires.space, c.if-count-eq0.false)

pub give-requires-clause-can_join : goal.give-requires-clause-can_join
give-requires-clause-can_join t c = one_can_join c.args.free.now c.take_one.new.free c.take_each.new.free c.args.cpu c.in_ok-block.block c.in_ok-block.ensures.took c.in-Err.ensures.err

pub give-requires-clause-room : goal.give-requires-clause-room
give-requires-clause-room t c = λ _. (let took = c.in_ok-block.ensures.took in omega (arith, c.requires.room, took.took.room, c.in-Err.ensures.room_left, c.if-count-eq0.false))

pub returns-in-Ok-clause-ok : goal.returns-in-Ok-clause-ok
returns-in-Ok-clause-ok t c = onto_more (omega (arith, c.if-count-eq0.false)) c.in_ok-block.ensures.took c.push_reserved.ensures.items c.in-Ok.ensures.ok

pub returns-in-Ok-clause-room : goal.returns-in-Ok-clause-room
returns-in-Ok-clause-room t c = let took = c.in_ok-block.ensures.took in omega (arith, took.took.room, c.in-Ok.ensures.room)

pub returns-in-Ok-clause-err : goal.returns-in-Ok-clause-err
returns-in-Ok-clause-err t c = tt

pub returns-in-Ok-clause-room_left : goal.returns-in-Ok-clause-room_left
returns-in-Ok-clause-room_left t c = tt

pub returns-in-Err-clause-ok : goal.returns-in-Err-clause-ok
returns-in-Err-clause-ok t c = tt

pub returns-in-Err-clause-room : goal.returns-in-Err-clause-room
returns-in-Err-clause-room t c = tt

pub returns-in-Err-clause-err : goal.returns-in-Err-clause-err
returns-in-Err-clause-err t c = one_given_back c.args.free.now c.take_one.new.free c.take_each.new.free c.give.new.self c.args.cpu c.in_ok-block.block c.requires.cpu c.in_ok-block.ensures.took c.in-Err.ensures.err c.give.ensures.joined

pub returns-in-Err-clause-room_left : goal.returns-in-Err-clause-room_left
returns-in-Err-clause-room_left t c = let took = c.in_ok-block.ensures.took in omega (arith, took.took.room, c.in-Err.ensures.room_left, c.give.ensures.room, c.if-count-eq0.false)

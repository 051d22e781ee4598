use Rattle.std.proofs.Common.{◌++◌, ◌∙◌, ◌<◌, ℕ, List, ap, arith, length, refl, subst, sym}
use Rattle.std.proofs.lemmas.Result.{IfOk-from_err}
use Rattle.nv_region.proofs.Told.{told_err}
use Rattle.nv_super.specs.declared.superblock.Super.{Super}
use Rattle.nv_steps.proofs.Singles.{from_nothing}
use Rattle.nv_steps.proofs.blocks.take_enough.Goals as goal

pub returns-clause-taken : goal.returns-clause-taken
returns-clause-taken c =
    record {
      each = from_nothing c.args.free.now c.reserve.new.self c.take_each.new.free c.args.cpu c.args.count c.in_ok-blocks.blocks.items c.take_each.new.blocks.items
          (record { sup = c.reserve.ensures.same.sup; pools = c.reserve.ensures.same.pools }) c.reserve.ensures.sound c.in_ok-blocks.ensures.items c.in_ok-take_each.ensures.ok;
      count_is = let onto = c.in_ok-take_each.ensures.ok in ap (λ (xs : List ℕ). length xs) (onto.all ∙ ap (λ (xs : List ℕ). xs ++ onto.more) c.in_ok-blocks.ensures.items) ∙ onto.count_is;
    }

pub returns-in_err-blocks-clause-taken : goal.returns-in_err-blocks-clause-taken
returns-in_err-blocks-clause-taken c = IfOk-from_err c.from_residual.result _ c.from_residual.ensures.0

pub returns-in_err-blocks-clause-room : goal.returns-in_err-blocks-clause-room
returns-in_err-blocks-clause-room c = IfOk-from_err c.from_residual.result _ c.from_residual.ensures.0

pub returns-in_err-reserve-clause-taken : goal.returns-in_err-reserve-clause-taken
returns-in_err-reserve-clause-taken c = IfOk-from_err c.from_residual-in_err-reserve.result _ c.from_residual-in_err-reserve.ensures.0

pub returns-in_err-reserve-clause-room : goal.returns-in_err-reserve-clause-room
returns-in_err-reserve-clause-room c = IfOk-from_err c.from_residual-in_err-reserve.result _ c.from_residual-in_err-reserve.ensures.0

pub returns-in_err-take_each-clause-taken : goal.returns-in_err-take_each-clause-taken
returns-in_err-take_each-clause-taken c = IfOk-from_err c.from_residual-in_err-take_each.result _ c.from_residual-in_err-take_each.ensures.0

pub returns-in_err-take_each-clause-room : goal.returns-in_err-take_each-clause-room
returns-in_err-take_each-clause-room c = IfOk-from_err c.from_residual-in_err-take_each.result _ c.from_residual-in_err-take_each.ensures.0

pub returns-in_err-blocks-clause-unchanged : goal.returns-in_err-blocks-clause-unchanged
returns-in_err-blocks-clause-unchanged c = told_err c.from_residual.result (record { sup = refl; pools = refl })

pub returns-in_err-blocks-clause-room_left : goal.returns-in_err-blocks-clause-room_left
returns-in_err-blocks-clause-room_left c = told_err c.from_residual.result (omega arith)

pub returns-in_err-reserve-clause-unchanged : goal.returns-in_err-reserve-clause-unchanged
returns-in_err-reserve-clause-unchanged c = let same = c.reserve.ensures.same in told_err c.from_residual-in_err-reserve.result (record { sup = same.sup; pools = same.pools })

pub returns-in_err-reserve-clause-room_left : goal.returns-in_err-reserve-clause-room_left
returns-in_err-reserve-clause-room_left c = let same = c.reserve.ensures.same in told_err c.from_residual-in_err-reserve.result (omega (arith, same.room))

pub returns-in_err-take_each-clause-unchanged : goal.returns-in_err-take_each-clause-unchanged
returns-in_err-take_each-clause-unchanged c = let same = c.reserve.ensures.same in let left = c.in_err-take_each.ensures.err in told_err c.from_residual-in_err-take_each.result (record { sup = left.sup ∙ same.sup; pools = left.pools ∙ same.pools })

pub returns-in_err-take_each-clause-room_left : goal.returns-in_err-take_each-clause-room_left
returns-in_err-take_each-clause-room_left c = let same = c.reserve.ensures.same in told_err c.from_residual-in_err-take_each.result (omega (arith, same.room, c.in_err-take_each.ensures.room_left))

pub take_each-requires-clause-cpu : goal.take_each-requires-clause-cpu
take_each-requires-clause-cpu c = let same = c.reserve.ensures.same in subst (λ (s : Super). c.args.cpu < s.cpus) (sym same.sup) c.requires.cpu

pub take_each-requires-clause-room : goal.take_each-requires-clause-room
take_each-requires-clause-room c = c.in_ok-reserve.ensures.room

pub take_each-requires-clause-space : goal.take_each-requires-clause-space
take_each-requires-clause-space c = omega (arith, c.in_ok-blocks.ensures.len, c.in_ok-blocks.ensures.capacity)

pub returns-clause-room : goal.returns-clause-room
returns-clause-room c = let same = c.reserve.ensures.same in omega (arith, same.room, c.in_ok-take_each.ensures.room)

pub returns-clause-unchanged : goal.returns-clause-unchanged
returns-clause-unchanged c = tt

pub returns-clause-room_left : goal.returns-clause-room_left
returns-clause-room_left c = tt

use Rattle.std.proofs.Common.{inl, inr, refl}
use Rattle.nv_steps.proofs.Refusals.{memory_goes_on, no_space, no_space_goes_on, not_refused}
use Rattle.nv_steps.proofs.making.prepare_name.Goals as goal

pub take_blocks-requires : goal.take_blocks-requires
take_blocks-requires c = record { cpu = c.requires.cpu }

pub returns-in-Ok-clause-taken : goal.returns-in-Ok-clause-taken
returns-in-Ok-clause-taken c = c.in-Ok.ensures.taken

pub returns-in-Ok-clause-room : goal.returns-in-Ok-clause-room
returns-in-Ok-clause-room c = (not_refused c.make_room.result c.is_err.result c.is_err.ensures.value c.if-is_err.false c.make_room.ensures.pages)

pub returns-in-Ok-clause-names_room : goal.returns-in-Ok-clause-names_room
returns-in-Ok-clause-names_room c = not_refused c.make_room.result c.is_err.result c.is_err.ensures.value c.if-is_err.false c.make_room.ensures.names

pub returns-in-Ok-clause-needs : goal.returns-in-Ok-clause-needs
returns-in-Ok-clause-needs c =
    record {
      enough = c.in-Ok.ensures.enough;
      refused = tt;
    }

pub returns-in-Ok-clause-once : goal.returns-in-Ok-clause-once
returns-in-Ok-clause-once c = c.len-names.ensures.each_once

pub returns-in-Ok-clause-row : goal.returns-in-Ok-clause-row
returns-in-Ok-clause-row c = c.make_room.ensures.row

pub returns-in-Ok-clause-goes_on : goal.returns-in-Ok-clause-goes_on
returns-in-Ok-clause-goes_on c = tt

pub returns-in-Ok-clause-unchanged : goal.returns-in-Ok-clause-unchanged
returns-in-Ok-clause-unchanged c = tt

pub returns-in-Err-NoSpace-clause-taken : goal.returns-in-Err-NoSpace-clause-taken
returns-in-Err-NoSpace-clause-taken c = tt

pub returns-in-Err-NoSpace-clause-room : goal.returns-in-Err-NoSpace-clause-room
returns-in-Err-NoSpace-clause-room c = tt

pub returns-in-Err-NoSpace-clause-names_room : goal.returns-in-Err-NoSpace-clause-names_room
returns-in-Err-NoSpace-clause-names_room c = tt

pub returns-in-Err-NoSpace-clause-needs : goal.returns-in-Err-NoSpace-clause-needs
returns-in-Err-NoSpace-clause-needs c =
    record {
      enough = tt;
      refused = inr (inr (refl, no_space _ _ _ c.in-Err-NoSpace.ensures.err c.in-Err-NoSpace.field-0-is));
    }

pub returns-in-Err-NoSpace-clause-once : goal.returns-in-Err-NoSpace-clause-once
returns-in-Err-NoSpace-clause-once c = c.len-names.ensures.each_once

pub returns-in-Err-NoSpace-clause-row : goal.returns-in-Err-NoSpace-clause-row
returns-in-Err-NoSpace-clause-row c = c.make_room.ensures.row

pub returns-in-Err-NoSpace-clause-goes_on : goal.returns-in-Err-NoSpace-clause-goes_on
returns-in-Err-NoSpace-clause-goes_on c = no_space_goes_on

pub returns-in-Err-NoSpace-clause-unchanged : goal.returns-in-Err-NoSpace-clause-unchanged
returns-in-Err-NoSpace-clause-unchanged c = c.in-Err-NoSpace.ensures.unchanged

pub returns-in-Err-Memory-clause-taken : goal.returns-in-Err-Memory-clause-taken
returns-in-Err-Memory-clause-taken c = tt

pub returns-in-Err-Memory-clause-room : goal.returns-in-Err-Memory-clause-room
returns-in-Err-Memory-clause-room c = tt

pub returns-in-Err-Memory-clause-names_room : goal.returns-in-Err-Memory-clause-names_room
returns-in-Err-Memory-clause-names_room c = tt

pub returns-in-Err-Memory-clause-needs : goal.returns-in-Err-Memory-clause-needs
returns-in-Err-Memory-clause-needs c =
    record {
      enough = tt;
      refused = inl refl;
    }

pub returns-in-Err-Memory-clause-once : goal.returns-in-Err-Memory-clause-once
returns-in-Err-Memory-clause-once c = c.len-names.ensures.each_once

pub returns-in-Err-Memory-clause-row : goal.returns-in-Err-Memory-clause-row
returns-in-Err-Memory-clause-row c = c.make_room.ensures.row

pub returns-in-Err-Memory-clause-goes_on : goal.returns-in-Err-Memory-clause-goes_on
returns-in-Err-Memory-clause-goes_on c = memory_goes_on

pub returns-in-Err-Memory-clause-unchanged : goal.returns-in-Err-Memory-clause-unchanged
returns-in-Err-Memory-clause-unchanged c = c.in-Err-Memory.ensures.unchanged

pub returns-then-is_err-clause-taken : goal.returns-then-is_err-clause-taken
returns-then-is_err-clause-taken c = tt

pub returns-then-is_err-clause-room : goal.returns-then-is_err-clause-room
returns-then-is_err-clause-room c = tt

pub returns-then-is_err-clause-names_room : goal.returns-then-is_err-clause-names_room
returns-then-is_err-clause-names_room c = tt

pub returns-then-is_err-clause-needs : goal.returns-then-is_err-clause-needs
returns-then-is_err-clause-needs c =
    record {
      enough = tt;
      refused = inl refl;
    }

pub returns-then-is_err-clause-once : goal.returns-then-is_err-clause-once
returns-then-is_err-clause-once c = c.len-names.ensures.each_once

pub returns-then-is_err-clause-row : goal.returns-then-is_err-clause-row
returns-then-is_err-clause-row c = c.make_room.ensures.row

pub returns-then-is_err-clause-goes_on : goal.returns-then-is_err-clause-goes_on
returns-then-is_err-clause-goes_on c = memory_goes_on

pub returns-then-is_err-clause-unchanged : goal.returns-then-is_err-clause-unchanged
returns-then-is_err-clause-unchanged c = record { sup = refl; pools = refl }

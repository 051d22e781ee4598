use Rattle.std.proofs.Common.{ℕ, ◌+◌, ◌%◌, ◌≤◌, ◌∙◌, arith, subst, ◌<◌, inl, inr, refl}
use Rattle.nv_alloc.specs.Taking.{all_blocks}
use Rattle.nv_steps.proofs.AppendedLogs.{needed_few}
use Rattle.nv_steps.proofs.Refusals.{memory_goes_on, no_space, no_space_goes_on}
use Rattle.nv_steps.proofs.growing.prepare_logs.Goals as goal

pub overflow_add-both : goal.overflow_add-both
overflow_add-both c =
    let one = needed_few (c.args.row.now.tail % 4096) c.args.first.now.entries.now in
    let other = needed_few (c.args.other.now.tail % 4096) c.args.second.now.entries.now in
    omega (arith, one, other, c.requires.few.0, c.requires.few.1, c.blocks_for-count.ensures, c.blocks_for-more.ensures)

pub returns-in-Ok-take_blocks-clause-ready : goal.returns-in-Ok-take_blocks-clause-ready
returns-in-Ok-take_blocks-clause-ready c = (
  (let room = c.in-Ok.ensures.pages in
      record {
        same = c.make_room.ensures.row;
        once = c.in-Ok.ensures.once;
        room = omega (arith, room, c.blocks_for-count.ensures);
        names_room = c.in-Ok.ensures.names;
      }),
  (let room = c.in-Ok-make_room.ensures.pages in
      record {
        same = c.make_room-2.ensures.row;
        once = c.in-Ok-make_room.ensures.once;
        room = omega (arith, room, c.blocks_for-more.ensures);
        names_room = c.in-Ok-make_room.ensures.names;
      }),
)

pub returns-in-Ok-take_blocks-clause-taken : goal.returns-in-Ok-take_blocks-clause-taken
returns-in-Ok-take_blocks-clause-taken c =
    record {
      each = c.in-Ok-take_blocks.ensures.taken.each;
      count_is = c.in-Ok-take_blocks.ensures.taken.count_is ∙ (λ t. c.blocks_for-count.ensures t + c.blocks_for-more.ensures t);
    }

pub returns-in-Ok-take_blocks-clause-needs : goal.returns-in-Ok-take_blocks-clause-needs
returns-in-Ok-take_blocks-clause-needs c =
    record {
      enough = subst (λ (m : ℕ). m ≤ all_blocks c.args.free.now.pools) (λ t. c.blocks_for-count.ensures t + c.blocks_for-more.ensures t) c.in-Ok-take_blocks.ensures.enough;
      refused = tt;
    }

pub returns-in-Ok-take_blocks-clause-room : goal.returns-in-Ok-take_blocks-clause-room
returns-in-Ok-take_blocks-clause-room c = c.in-Ok-take_blocks.ensures.room

pub returns-in-Ok-take_blocks-clause-goes_on : goal.returns-in-Ok-take_blocks-clause-goes_on
returns-in-Ok-take_blocks-clause-goes_on c = tt

pub returns-in-Ok-take_blocks-clause-unchanged : goal.returns-in-Ok-take_blocks-clause-unchanged
returns-in-Ok-take_blocks-clause-unchanged c = tt

pub returns-in-Ok-take_blocks-clause-rows : goal.returns-in-Ok-take_blocks-clause-rows
returns-in-Ok-take_blocks-clause-rows c = (c.make_room.ensures.row, c.make_room-2.ensures.row)

pub take_blocks-requires : goal.take_blocks-requires
take_blocks-requires c = record { cpu = c.requires.cpu }

pub returns-in-Err-NoSpace-clause-taken : goal.returns-in-Err-NoSpace-clause-taken
returns-in-Err-NoSpace-clause-taken c = tt

pub returns-in-Err-NoSpace-clause-needs : goal.returns-in-Err-NoSpace-clause-needs
returns-in-Err-NoSpace-clause-needs c =
    record {
      enough = tt;
      refused = inr (inr (refl, subst (λ (m : ℕ). all_blocks c.args.free.now.pools < m) (λ t. c.blocks_for-count.ensures t + c.blocks_for-more.ensures t) (no_space _ _ _ c.in-Err-NoSpace.ensures.err c.in-Err-NoSpace.field-0-is)));
    }

pub returns-in-Err-NoSpace-clause-ready : goal.returns-in-Err-NoSpace-clause-ready
returns-in-Err-NoSpace-clause-ready c = tt

pub returns-in-Err-NoSpace-clause-room : goal.returns-in-Err-NoSpace-clause-room
returns-in-Err-NoSpace-clause-room c = tt

pub returns-in-Err-NoSpace-clause-goes_on : goal.returns-in-Err-NoSpace-clause-goes_on
returns-in-Err-NoSpace-clause-goes_on c = no_space_goes_on

pub returns-in-Err-NoSpace-clause-unchanged : goal.returns-in-Err-NoSpace-clause-unchanged
returns-in-Err-NoSpace-clause-unchanged c = c.in-Err-NoSpace.ensures.unchanged

pub returns-in-Err-NoSpace-clause-rows : goal.returns-in-Err-NoSpace-clause-rows
returns-in-Err-NoSpace-clause-rows c = (c.make_room.ensures.row, c.make_room-2.ensures.row)

pub returns-in-Err-Memory-clause-taken : goal.returns-in-Err-Memory-clause-taken
returns-in-Err-Memory-clause-taken c = tt

pub returns-in-Err-Memory-clause-needs : goal.returns-in-Err-Memory-clause-needs
returns-in-Err-Memory-clause-needs c =
    record {
      enough = tt;
      refused = inl refl;
    }

pub returns-in-Err-Memory-clause-ready : goal.returns-in-Err-Memory-clause-ready
returns-in-Err-Memory-clause-ready c = tt

pub returns-in-Err-Memory-clause-room : goal.returns-in-Err-Memory-clause-room
returns-in-Err-Memory-clause-room c = tt

pub returns-in-Err-Memory-clause-goes_on : goal.returns-in-Err-Memory-clause-goes_on
returns-in-Err-Memory-clause-goes_on c = memory_goes_on

pub returns-in-Err-Memory-clause-unchanged : goal.returns-in-Err-Memory-clause-unchanged
returns-in-Err-Memory-clause-unchanged c = c.in-Err-Memory.ensures.unchanged

pub returns-in-Err-Memory-clause-rows : goal.returns-in-Err-Memory-clause-rows
returns-in-Err-Memory-clause-rows c = (c.make_room.ensures.row, c.make_room-2.ensures.row)

pub returns-in_default-clause-taken : goal.returns-in_default-clause-taken
returns-in_default-clause-taken c = tt

pub returns-in_default-clause-needs : goal.returns-in_default-clause-needs
returns-in_default-clause-needs c =
    record {
      enough = tt;
      refused = inl refl;
    }

pub returns-in_default-clause-ready : goal.returns-in_default-clause-ready
returns-in_default-clause-ready c = tt

pub returns-in_default-clause-room : goal.returns-in_default-clause-room
returns-in_default-clause-room c = tt

pub returns-in_default-clause-goes_on : goal.returns-in_default-clause-goes_on
returns-in_default-clause-goes_on c = memory_goes_on

pub returns-in_default-clause-unchanged : goal.returns-in_default-clause-unchanged
returns-in_default-clause-unchanged c = record { sup = refl; pools = refl }

pub returns-in_default-clause-rows : goal.returns-in_default-clause-rows
returns-in_default-clause-rows c = (c.make_room.ensures.row, record { inode = refl; kind = refl; numbers = refl; head = refl; tail = refl; pages = refl; index = λ p. refl; names = λ q. refl })

pub returns-in_default-make_room-clause-taken : goal.returns-in_default-make_room-clause-taken
returns-in_default-make_room-clause-taken c = tt

pub returns-in_default-make_room-clause-needs : goal.returns-in_default-make_room-clause-needs
returns-in_default-make_room-clause-needs c =
    record {
      enough = tt;
      refused = inl refl;
    }

pub returns-in_default-make_room-clause-ready : goal.returns-in_default-make_room-clause-ready
returns-in_default-make_room-clause-ready c = tt

pub returns-in_default-make_room-clause-room : goal.returns-in_default-make_room-clause-room
returns-in_default-make_room-clause-room c = tt

pub returns-in_default-make_room-clause-goes_on : goal.returns-in_default-make_room-clause-goes_on
returns-in_default-make_room-clause-goes_on c = memory_goes_on

pub returns-in_default-make_room-clause-unchanged : goal.returns-in_default-make_room-clause-unchanged
returns-in_default-make_room-clause-unchanged c = record { sup = refl; pools = refl }

pub returns-in_default-make_room-clause-rows : goal.returns-in_default-make_room-clause-rows
returns-in_default-make_room-clause-rows c = (c.make_room.ensures.row, c.make_room-2.ensures.row)

pub returns-then-not-are_enough-clause-taken : goal.returns-then-not-are_enough-clause-taken
returns-then-not-are_enough-clause-taken c = tt

pub returns-then-not-are_enough-clause-needs : goal.returns-then-not-are_enough-clause-needs
returns-then-not-are_enough-clause-needs c =
    record {
      enough = tt;
      refused = inr (inr (refl, subst (λ (m : ℕ). all_blocks c.args.free.now.pools < m) (λ t. c.blocks_for-count.ensures t + c.blocks_for-more.ensures t) (c.are_enough.ensures.no c.if-not-are_enough.true)));
    }

pub returns-then-not-are_enough-clause-ready : goal.returns-then-not-are_enough-clause-ready
returns-then-not-are_enough-clause-ready c = tt

pub returns-then-not-are_enough-clause-room : goal.returns-then-not-are_enough-clause-room
returns-then-not-are_enough-clause-room c = tt

pub returns-then-not-are_enough-clause-goes_on : goal.returns-then-not-are_enough-clause-goes_on
returns-then-not-are_enough-clause-goes_on c = no_space_goes_on

pub returns-then-not-are_enough-clause-unchanged : goal.returns-then-not-are_enough-clause-unchanged
returns-then-not-are_enough-clause-unchanged c = record { sup = refl; pools = refl }

pub returns-then-not-are_enough-clause-rows : goal.returns-then-not-are_enough-clause-rows
returns-then-not-are_enough-clause-rows c = (record { inode = refl; kind = refl; numbers = refl; head = refl; tail = refl; pages = refl; index = λ p. refl; names = λ q. refl }, record { inode = refl; kind = refl; numbers = refl; head = refl; tail = refl; pages = refl; index = λ p. refl; names = λ q. refl })

use Rattle.std.proofs.Common.{◌∙◌, ◌<◌, ◌≤◌, ◌%◌, arith, inl, inr, List, refl, subst, sym}
use Rattle.nv_super.specs.declared.owners.Run.{Run}
use Rattle.nv_super.specs.declared.superblock.Super.{Super}
use Rattle.nv_alloc.specs.Taking.{all_blocks}
use Rattle.nv_logpage.specs.Append.{needed}
use Rattle.nv_steps.proofs.Refusals.{memory_goes_on, no_space, no_space_goes_on, not_refused}
use Rattle.nv_steps.proofs.lessening.prepare_cut.Goals as goal

pub prepare_log-requires : goal.prepare_log-requires
prepare_log-requires c = record { cpu = subst (λ (s : Super). c.args.cpu < s.cpus) (sym c.reserve.ensures.same.sup) c.requires.cpu }

pub returns-in-Ok-clause-taken : goal.returns-in-Ok-clause-taken
returns-in-Ok-clause-taken c =
    record {
      each = let taken = c.in-Ok.ensures.taken.each in let same = c.reserve.ensures.same in record { from = taken.from; same = record { sup = taken.same.sup ∙ same.sup; pools = taken.same.pools ∙ same.pools }; sound = taken.sound; each = taken.each };
      count_is = c.in-Ok.ensures.taken.count_is;
    }

pub returns-in-Ok-clause-pages_room : goal.returns-in-Ok-clause-pages_room
returns-in-Ok-clause-pages_room c = c.in-Ok.ensures.room

pub returns-in-Ok-clause-room : goal.returns-in-Ok-clause-room
returns-in-Ok-clause-room c = let kept = not_refused c.reserve.result c.is_err.result c.is_err.ensures.value c.if-is_err.false c.reserve.ensures.room in omega (arith, kept, c.in-Ok.ensures.given_back)

pub returns-in-Ok-clause-needs : goal.returns-in-Ok-clause-needs
returns-in-Ok-clause-needs c =
    record {
      enough = subst (λ (pools : List (List Run)). needed (c.args.row.now.tail % 4096) c.args.entries.now ≤ all_blocks pools) c.reserve.ensures.same.pools c.in-Ok.ensures.enough;
      refused = tt;
    }

pub returns-in-Ok-clause-once : goal.returns-in-Ok-clause-once
returns-in-Ok-clause-once c = c.len-names.ensures.each_once

pub returns-in-Ok-clause-row : goal.returns-in-Ok-clause-row
returns-in-Ok-clause-row c = (record { inode = refl; kind = refl; numbers = refl; head = refl; tail = refl; pages = c.in-Ok.ensures.pages; index = λ p. refl; names = λ q. refl }, refl)

pub returns-in-Ok-clause-goes_on : goal.returns-in-Ok-clause-goes_on
returns-in-Ok-clause-goes_on c = tt

pub returns-in-Ok-clause-unchanged : goal.returns-in-Ok-clause-unchanged
returns-in-Ok-clause-unchanged c = tt

pub returns-in-Err-NoSpace-clause-taken : goal.returns-in-Err-NoSpace-clause-taken
returns-in-Err-NoSpace-clause-taken c = tt

pub returns-in-Err-NoSpace-clause-pages_room : goal.returns-in-Err-NoSpace-clause-pages_room
returns-in-Err-NoSpace-clause-pages_room c = tt

pub returns-in-Err-NoSpace-clause-room : goal.returns-in-Err-NoSpace-clause-room
returns-in-Err-NoSpace-clause-room c = tt

pub returns-in-Err-NoSpace-clause-needs : goal.returns-in-Err-NoSpace-clause-needs
returns-in-Err-NoSpace-clause-needs c =
    record {
      enough = tt;
      refused = inr (inr (refl, subst (λ (pools : List (List Run)). all_blocks pools < needed (c.args.row.now.tail % 4096) c.args.entries.now) c.reserve.ensures.same.pools (no_space _ _ _ c.in-Err-NoSpace.ensures.err c.in-Err-NoSpace.field-0-is)));
    }

pub returns-in-Err-NoSpace-clause-once : goal.returns-in-Err-NoSpace-clause-once
returns-in-Err-NoSpace-clause-once c = c.len-names.ensures.each_once

pub returns-in-Err-NoSpace-clause-row : goal.returns-in-Err-NoSpace-clause-row
returns-in-Err-NoSpace-clause-row c = (record { inode = refl; kind = refl; numbers = refl; head = refl; tail = refl; pages = c.in-Err-NoSpace.ensures.pages; index = λ p. refl; names = λ q. refl }, refl)

pub returns-in-Err-NoSpace-clause-goes_on : goal.returns-in-Err-NoSpace-clause-goes_on
returns-in-Err-NoSpace-clause-goes_on c = no_space_goes_on

pub returns-in-Err-NoSpace-clause-unchanged : goal.returns-in-Err-NoSpace-clause-unchanged
returns-in-Err-NoSpace-clause-unchanged c = let left = c.in-Err-NoSpace.ensures.unchanged in let same = c.reserve.ensures.same in record { sup = left.sup ∙ same.sup; pools = left.pools ∙ same.pools }

pub returns-in-Err-Memory-clause-taken : goal.returns-in-Err-Memory-clause-taken
returns-in-Err-Memory-clause-taken c = tt

pub returns-in-Err-Memory-clause-pages_room : goal.returns-in-Err-Memory-clause-pages_room
returns-in-Err-Memory-clause-pages_room c = tt

pub returns-in-Err-Memory-clause-room : goal.returns-in-Err-Memory-clause-room
returns-in-Err-Memory-clause-room c = tt

pub returns-in-Err-Memory-clause-needs : goal.returns-in-Err-Memory-clause-needs
returns-in-Err-Memory-clause-needs c =
    record {
      enough = tt;
      refused = inl refl;
    }

pub returns-in-Err-Memory-clause-once : goal.returns-in-Err-Memory-clause-once
returns-in-Err-Memory-clause-once c = c.len-names.ensures.each_once

pub returns-in-Err-Memory-clause-row : goal.returns-in-Err-Memory-clause-row
returns-in-Err-Memory-clause-row c = (record { inode = refl; kind = refl; numbers = refl; head = refl; tail = refl; pages = c.in-Err-Memory.ensures.pages; index = λ p. refl; names = λ q. refl }, refl)

pub returns-in-Err-Memory-clause-goes_on : goal.returns-in-Err-Memory-clause-goes_on
returns-in-Err-Memory-clause-goes_on c = memory_goes_on

pub returns-in-Err-Memory-clause-unchanged : goal.returns-in-Err-Memory-clause-unchanged
returns-in-Err-Memory-clause-unchanged c = let left = c.in-Err-Memory.ensures.unchanged in let same = c.reserve.ensures.same in record { sup = left.sup ∙ same.sup; pools = left.pools ∙ same.pools }

pub returns-then-is_err-clause-taken : goal.returns-then-is_err-clause-taken
returns-then-is_err-clause-taken c = tt

pub returns-then-is_err-clause-pages_room : goal.returns-then-is_err-clause-pages_room
returns-then-is_err-clause-pages_room c = tt

pub returns-then-is_err-clause-room : goal.returns-then-is_err-clause-room
returns-then-is_err-clause-room c = tt

pub returns-then-is_err-clause-needs : goal.returns-then-is_err-clause-needs
returns-then-is_err-clause-needs c =
    record {
      enough = tt;
      refused = inl refl;
    }

pub returns-then-is_err-clause-once : goal.returns-then-is_err-clause-once
returns-then-is_err-clause-once c = c.len-names.ensures.each_once

pub returns-then-is_err-clause-row : goal.returns-then-is_err-clause-row
returns-then-is_err-clause-row c = (record { inode = refl; kind = refl; numbers = refl; head = refl; tail = refl; pages = refl; index = λ p. refl; names = λ q. refl }, refl)

pub returns-then-is_err-clause-goes_on : goal.returns-then-is_err-clause-goes_on
returns-then-is_err-clause-goes_on c = memory_goes_on

pub returns-then-is_err-clause-unchanged : goal.returns-then-is_err-clause-unchanged
returns-then-is_err-clause-unchanged c = let same = c.reserve.ensures.same in record { sup = same.sup; pools = same.pools }

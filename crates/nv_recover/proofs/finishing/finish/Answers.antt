use Rattle.std.proofs.Common.{List, ℕ, ◌*◌, ◌≤◌, length, refl, subst}
use Rattle.nv_alloc.specs.FreeLists.{AreOutside}
use Rattle.nv_super.specs.declared.superblock.Super.{Super}
use Rattle.nv_recover.proofs.Answers.{answer_of, covers_same, told_same}
use Rattle.nv_recover.proofs.Inodes.{rows_slotted}
use Rattle.nv_recover.proofs.finishing.finish.Goals as goal

pub from_words-requires-clause-covers : goal.from_words-requires-clause-covers
from_words-requires-clause-covers c =
    covers_same _ c.deref.ensures.value (subst (λ (s : Super). s.blocks ≤ 64 * length c.args.scanned.owned.blocks.items) c.requires.tables c.requires.scanned.1.owned.cover)

pub from_rows-requires : goal.from_rows-requires
from_rows-requires c = rows_slotted c.are_laid.ensures c.requires.scanned.1.inodes c.args.scanned.inodes.rows.items refl

pub returns : goal.returns
returns c = λ old new started scanned. answer_of started scanned record {
  sup = refl;
  tables = refl;
  rows = c.in_ok-rows.ensures.rows;
  numbers = record { sup = c.in_ok-rows.ensures.sup; sizes = c.in_ok-rows.ensures.sizes };
  outside = subst (λ (first : List ℕ). AreOutside first c.args.started.sup c.in_ok-free.free) c.deref.ensures.value c.in_ok-free.ensures.outside;
  owned_twice = refl;
  all = told_same c.args.started.journal.items c.faults.ensures c.deref-2.ensures.value c.deref-3.ensures.value c.deref-4.ensures.value c.in_ok-faults.ensures;
}

-- An inode that goes together with the entries that say so.
use Rattle.std.proofs.Common.{◌≡◌, ℕ, ◌+◌, ◌*◌, ◌%◌, ◌<◌, ◌≤◌, inl, inr, List, length, take, refl, sym, subst, arith, Some}
use Rattle.nv_region.specs.Region.{Region, size, put}
use Rattle.nv_region.specs.Stops.{Choices, IsMixed, LeavesOnly, NothingPending}
use Rattle.nv_region.specs.Stored.{SameOutside, Stored, StoresOnly}
use Rattle.nv_region.proofs.Stops.{mixed_left, mixed_same}
use Rattle.nv_region.proofs.Wordwise.{mixed_more, put_stored}
use Rattle.nv_super.specs.Layout.{Layout}
use Rattle.nv_inode.specs.Chains.{IsLaid}
use Rattle.nv_inode.specs.Permitted.{is_permitted_by}
use Rattle.nv_journal.specs.Undo.{journal}
use Rattle.nv_journal.specs.Pending.{BeforeOrAfter, CanUndo, IsEmpty}
use Rattle.nv_journal.specs.Faults.{NoJournalFault}
use Rattle.nv_inode.proofs.LayoutWords.{lies_behind}
use Rattle.nv_journal.specs.Recorded.{Two}
use Rattle.nv_logpage.specs.Append.{AppendWords, appended, end_of, needed}
use Rattle.nv_outcome.proofs.SuperOf.{blocks_of_super}
use Rattle.nv_mounted.specs.Held.{Held, Store, Shows, with_inode}
use Rattle.nv_mounted.specs.Slots.{SlotsClear}
use Rattle.nv_mounted.specs.Front.{SameFront}
use Rattle.nv_mounted.specs.Grows.{grown}
use Rattle.nv_mounted.specs.Appended.{Appends, HasBehind}
use Rattle.nv_mounted.proofs.Appending.{tail_follows}
use Rattle.nv_mounted.proofs.BytesKept.{mixed_size}
use Rattle.nv_mounted.proofs.Commits.{pages_clear, pages_grown, removed, stored_outside}
use Rattle.nv_mounted.proofs.Fronts.{front_idle, loose_front, slot_front, tables_laid}
use Rattle.nv_commit.specs.declared.together.Extension.{Extension}
use Rattle.nv_commit.specs.Extends.{extended, with_log}
use Rattle.nv_commit.specs.Together.{BothWords, CanCommit, ShowsIdle}
use Rattle.nv_commit.specs.Removes.{BeforeOrRemoved, CanRemove, with_removed}
use Rattle.nv_commit.proofs.BothTails.{sound_undone, still_empty}
use Rattle.nv_commit.proofs.Extends.{all_loose, ends, front_more, slots, sound_before, stands_behind}
use Rattle.nv_commit.proofs.Permitted.{tail_permitted, valid_permitted}
use Rattle.nv_commit.proofs.TwoWords.{ByJournal, IsInSlot, no_fault, words_idle, words_undone}

-- the journal stays empty while one log is written to
pub empty_there : {R S : Region} {cpu : ℕ} {x : Extension} → CanCommit R cpu x → IsMixed R (AppendWords x.tail x.fresh.now) S → IsEmpty R cpu → IsEmpty S cpu
empty_there {R} {S} {cpu} {x} one mixed empty =
    still_empty {R = R} {S = S} {x = x} {y = x} one one (mixed_more (BothWords x x) (AppendWords x.tail x.fresh.now) R R S (λ k v w. inl w) (mixed_same R (BothWords x x)) mixed) empty

module _ {R : Region} {l : Layout} {held : Store} {cpu i : ℕ} {h : Held} {x : Extension} {j slot : ℕ} (can : CanRemove R l held cpu i h x j slot) where
  pub left_undone : (now : Region) (old new : Choices) → StoresOnly (AppendWords x.tail x.fresh.now) R now old new → NothingPending R old → LeavesOnly now new (BeforeOrRemoved l held i h x j)
  left_undone now old new wrote settled left may = inl (sound_undone (sound_before can.parent left (mixed_left R now (AppendWords x.tail x.fresh.now) old new wrote.mixed.as_long wrote.mixed.same_rest settled wrote.adds left may)))

  module _ (S : Region) (new : ℕ) (is : new ≡ end_of x.fresh.now 0 x.tail x.entries.now) (appends : Appends R S x.tail new x.entries.now x.fresh.now) where
    clear : SlotsClear l held
    clear = slots can.parent

    behind : HasBehind S l held h new (appended x.fresh.now 0 h.tail x.entries.now) (take (needed (h.tail % 4096) x.entries.now) x.fresh.now)
    behind = stands_behind can.parent S new is appends

    front : SameFront l R S
    front = loose_front l held R S clear.stand can.parent.sound.faultless.undoubled can.parent.sound.shows (all_loose can.parent S appends.wrote)

    laid : IsLaid l
    laid = tables_laid can.parent.sound.tables

    same_size : size S ≡ size R
    same_size = mixed_size appends.wrote

    pub can_undo : length R.rest < 8 → CanUndo (is_permitted_by l) l.sup.cpus S cpu (x.slot + 24) slot
    can_undo short = record {
      rule = lies_behind l laid;
      journals = (let blocks = blocks_of_super R l.sup can.parent.sound.sup in let long : size R ≡ 8 * length R.words + length R.rest = refl in omega (arith, laid.layout.areas.room, blocks, long, short, appends.wrote.as_long));
      inside = can.journals;
      permits_first = tail_permitted l i x.slot laid can.parent.at;
      permits_second = valid_permitted l j slot laid can.at;
      quiet = λ c below sound. (front_idle R S l front can.parent.sound.idle c below).1;
    }

    pub faultless : NoJournalFault (is_permitted_by l) l.sup.cpus S
    faultless = no_fault can.parent.sound front

    module _ (first_inside : x.slot + 32 ≤ size R) (second_inside : slot + 8 ≤ size R) (short : length R.rest < 8) where
      abbrev moved : Region
      moved = put S (x.slot + 24) new

      abbrev both : Region
      both = put moved slot 0

      short_now : length S.rest < 8
      short_now = subst (λ (r : List ℕ). length r < 8) (sym appends.wrote.same_rest) short

      first_stored : Stored S (x.slot + 24) new moved
      first_stored = put_stored S (x.slot + 24) new (omega (arith, clear.whole i x.slot can.parent.at)) (omega (arith, first_inside, same_size)) short_now

      second_stored : Stored moved slot 0 both
      second_stored = put_stored moved slot 0 (omega (arith, clear.whole j slot can.at)) (omega (arith, second_inside, same_size, first_stored.len)) short_now

      first_outside : SameOutside S x.slot 128 moved
      first_outside = stored_outside S moved x.slot 24 new (clear.whole i x.slot can.parent.at) (omega arith) (omega arith) first_stored

      second_outside : SameOutside moved slot 128 both
      second_outside =
          let plus : slot + 0 ≡ slot = omega arith in
          stored_outside moved both slot 0 0 (clear.whole j slot can.at) refl (omega arith) (subst (λ (n : ℕ). Stored moved n 0 both) (sym plus) second_stored)

      abbrev first_held : Store
      first_held = with_log held i h x.entries.now x.fresh.now

      first_shows : Shows moved l first_held
      first_shows =
          subst (λ (n : ℕ). Shows moved l (with_inode held i (Some (grown h n (appended x.fresh.now 0 h.tail x.entries.now) (take (needed (h.tail % 4096) x.entries.now) x.fresh.now))))) (ends can.parent S new is appends)
          (tail_follows l held S moved i x.slot new h (appended x.fresh.now 0 h.tail x.entries.now) (take (needed (h.tail % 4096) x.entries.now) x.fresh.now) (pages_clear clear) can.parent.at can.parent.holds behind first_stored)

      both_show : Shows both l (with_removed held i h x j)
      both_show = removed l first_held moved both j slot (pages_grown l held i (extended h x.entries.now x.fresh.now) (pages_clear clear) behind.clear) can.at second_stored first_shows

      both_front : SameFront l R both
      both_front = front_more front (front_more (slot_front l S moved i x.slot clear.stand can.parent.at first_outside) (slot_front l moved both j slot clear.stand can.at second_outside))

      -- after the change of both words, and while they change
      abbrev these : Choices
      these = Two (x.slot + 24) new slot 0

      inside : (k v : ℕ) → these k v → IsInSlot l k
      inside k v (inl w) = let number = w.0 in let whole = clear.whole i x.slot can.parent.at in (i, x.slot, can.parent.at, omega (arith, number, whole), omega (arith, number, whole))
      inside k v (inr w) = let number = w.0 in let whole = clear.whole j slot can.at in (j, slot, can.at, omega (arith, number, whole), omega (arith, number, whole))

      pub removed_idle : (N : Region) → SameOutside both (journal cpu) 4096 N → IsEmpty N cpu → IsMixed S (ByJournal cpu these) N → ShowsIdle N l (with_removed held i h x j)
      removed_idle N outside empty = words_idle these inside can.parent.sound clear.stand can.journals front behind.shows both_front both_show N outside empty

      pub removed_undone : (left : Region) → BeforeOrAfter (is_permitted_by l) l.sup.cpus S (x.slot + 24) new slot 0 left → NoJournalFault (is_permitted_by l) l.sup.cpus left → IsMixed S (ByJournal cpu these) left → BeforeOrRemoved l held i h x j left
      removed_undone left either none = words_undone these inside can.parent.sound clear.stand can.journals front behind.shows both_front both_show left either none

-- A log that grows by entries, and its tail that moves.
use Rattle.std.proofs.Common.{◌≡◌, ℕ, ◌+◌, ◌*◌, ◌%◌, ◌≤◌, ◌<◌, ◌⊎◌, Bool, true, false, inl, inr, List, ◌++◌, length, take, refl, sym, ◌∙◌, subst, arith, Some, None, Result, Ok, Err, is_err, IfOk, OnErr, IsTrue}
use Rattle.std.proofs.lemmas.Bool.{cases_lt, true≢false}
use Rattle.nv_region.specs.Region.{Region, size, put}
use Rattle.nv_region.specs.Stops.{Choices, IsMixed, LeavesOnly, NothingPending, PendingOnly}
use Rattle.nv_region.specs.Stored.{Stored, StoresOnly}
use Rattle.nv_region.proofs.Stops.{mixed_left, mixed_put, mixed_same}
use Rattle.nv_region.proofs.Wordwise.{mixed_more, put_stored}
use Rattle.nv_super.specs.declared.superblock.Super.{Super}
use Rattle.nv_super.specs.Layout.{Layout, is_data_address, is_page_start}
use Rattle.nv_inode.specs.Slot.{is_right_log}
use Rattle.nv_entry.specs.declared.entry.Entry.{Entry}
use Rattle.nv_logpage.specs.declared.found.Placed.{Placed}
use Rattle.nv_logpage.specs.Reads.{Reads}
use Rattle.nv_logpage.specs.Append.{AppendWords, CanBePages, FreshFor, appended, end_of, needed}
use Rattle.nv_mounted.specs.Held.{Held, Store, Shows, with_inode}
use Rattle.nv_mounted.specs.Slots.{SlotsClear}
use Rattle.nv_mounted.specs.Loose.{Loose}
use Rattle.nv_mounted.specs.Front.{SameFront}
use Rattle.nv_mounted.specs.Grows.{grown}
use Rattle.nv_mounted.specs.Mounted.{ShowsSound}
use Rattle.nv_mounted.specs.Appended.{Appends, HasBehind}
use Rattle.nv_mounted.proofs.Fronts.{loose_front, loose_sound, slot_front, sound_clear}
use Rattle.nv_mounted.proofs.Commits.{pages_clear, stored_outside}
use Rattle.nv_mounted.proofs.Appending.{append_loose, has_behind, tail_follows}
use Rattle.nv_commit.specs.Extends.{BeforeOrExtended, CanExtend, ExtendWords, LooseOrExtended, ShowsMoved, with_log}
use Rattle.nv_commit.proofs.Left.{mixed_pending}

-- an append that was refused: there was an entry, and the fuse has burnt
pub burnt_append : (count : ℕ) (burnt : Bool) → (0 < count → true ≡ burnt) → (count ≡ 0 → true ≡ false) → true ≡ burnt
burnt_append count burnt some none = elim (cases_lt 0 count) [ inl more ↦ some more | inr least ↦ absurd (true≢false (none (omega (arith, least)))) ]

-- the same, told of its result
pub burnt_where_refused : {E : Type 0} (r : Result ℕ E) (count : ℕ) (burnt : Bool) → (0 < count → is_err r ≡ burnt) → (count ≡ 0 → is_err r ≡ false) → OnErr r (burnt ≡ true)
burnt_where_refused (Ok new) count burnt some none = tt
burnt_where_refused (Err e) count burnt some none = sym (burnt_append count burnt some none)

-- what an append that is done promises
pub appends_where_done : {E : Type 0} (R S : Region) (tail : ℕ) (entries : List Entry) (fresh : List ℕ) (r : Result ℕ E)
    → ((s : Super) (head : ℕ) (es : List Placed) (all : List ℕ) → IsTrue (is_page_start s head) → FreshFor s fresh all → Reads R s head tail es all None
    → IfOk r (λ new. Reads S s head new (es ++ appended fresh 0 tail entries) (all ++ take (needed (tail % 4096) entries) fresh) None))
    → ((s : Super) (head : ℕ) → IsTrue (is_page_start s head) → IsTrue (is_data_address s tail) → CanBePages s fresh → (8 ≤ tail % 4096) ⊎ (0 < length entries) → IfOk r (λ new. IsTrue (is_right_log s head new)))
    → IsMixed R (AppendWords tail fresh) S → IfOk r (λ new. Appends R S tail new entries fresh)
appends_where_done R S tail entries fresh (Ok new) reads right wrote = record { reads = reads; right = right; wrote = wrote }
appends_where_done R S tail entries fresh (Err e) reads right wrote = tt

pub front_more : {l : Layout} {R Q S : Region} → SameFront l R Q → SameFront l Q S → SameFront l R S
front_more first then = record {
  len = then.len ∙ first.len;
  words = λ at whole low. then.words at whole low ∙ first.words at whole low;
  links = λ c k b has. then.links c k b has ∙ first.links c k b has;
}

module _ {R : Region} {l : Layout} {held : Store} {i : ℕ} {h : Held} {slot tail : ℕ} {entries : List Entry} {fresh : List ℕ} (can : CanExtend R l held i h slot tail entries fresh) where
  pub slots : SlotsClear l held
  slots = sound_clear can.sound

  pub loose_there : (k x : ℕ) → AppendWords tail fresh k x → Loose l held k x
  loose_there k x w = append_loose l held i h can.holds fresh can.free k x (subst (λ (t : ℕ). AppendWords t fresh k x) (sym can.tail_is) w)

  pub all_loose : (left : Region) → IsMixed R (AppendWords tail fresh) left → IsMixed R (Loose l held) left
  all_loose left mixed = mixed_more (Loose l held) (AppendWords tail fresh) R R left loose_there (mixed_same R (Loose l held)) mixed

  -- before the tail is moved
  pub sound_before : (left : Region) → IsMixed R (AppendWords tail fresh) left → ShowsSound left l held
  sound_before left mixed = loose_sound R left l held can.sound (all_loose left mixed)

  pub left_before : (now : Region) (old new : Choices) → StoresOnly (AppendWords tail fresh) R now old new → NothingPending R old → LeavesOnly now new (BeforeOrExtended R l held i h entries fresh)
  left_before now old new wrote settled left may = inl (sound_before left (mixed_left R now (AppendWords tail fresh) old new wrote.mixed.as_long wrote.mixed.same_rest settled wrote.adds left may))

  -- the same where loose words were pending
  pub loose_left : (now : Region) (old new : Choices) → StoresOnly (AppendWords tail fresh) R now old new → PendingOnly R old (Loose l held) → LeavesOnly now new (LooseOrExtended R l held i h slot tail entries fresh)
  loose_left now old new wrote pending left may =
      let both = mixed_pending R now (Loose l held) (AppendWords tail fresh) old new wrote.mixed.as_long wrote.mixed.same_rest pending wrote.adds left may in
      inl (mixed_more (Loose l held) (λ k x. Loose l held k x ⊎ AppendWords tail fresh k x) R R left (λ k x w. elim w [ inl loose ↦ loose | inr one ↦ loose_there k x one ]) (mixed_same R (Loose l held)) both)

  module _ (Q : Region) (new : ℕ) (is : new ≡ end_of fresh 0 tail entries) (appends : Appends R Q tail new entries fresh) where
    here : Appends R Q h.tail new entries fresh
    here = subst (λ (t : ℕ). Appends R Q t new entries fresh) (sym can.tail_is) appends

    -- what stands behind the tail
    pub stands_behind : HasBehind Q l held h new (appended fresh 0 h.tail entries) (take (needed (h.tail % 4096) entries) fresh)
    stands_behind = has_behind l held i h can.holds fresh can.free can.sound.shows Q new entries slots can.sound.faultless.undoubled here

    pub ends : new ≡ end_of fresh 0 h.tail entries
    ends = subst (λ (t : ℕ). new ≡ end_of fresh 0 t entries) (sym can.tail_is) is

    -- once it is moved
    pub shows_after : (S : Region) → Stored Q (slot + 24) new S → ShowsMoved R l (with_log held i h entries fresh) S
    shows_after S stored =
        let shows = tail_follows l held Q S i slot new h (appended fresh 0 h.tail entries) (take (needed (h.tail % 4096) entries) fresh) (pages_clear slots) can.at can.holds stands_behind stored in
        record {
          front = front_more (loose_front l held R Q slots.stand can.sound.faultless.undoubled can.sound.shows (all_loose Q appends.wrote))
              (slot_front l Q S i slot slots.stand can.at (stored_outside Q S slot 24 new (slots.whole i slot can.at) (omega arith) (omega arith) stored));
          shows = subst (λ (n : ℕ). Shows S l (with_inode held i (Some (grown h n (appended fresh 0 h.tail entries) (take (needed (h.tail % 4096) entries) fresh))))) ends shows;
        }

    -- the same by a put
    pub put_after : slot % 8 ≡ 0 → slot + 32 ≤ size R → length R.rest < 8 → ShowsMoved R l (with_log held i h entries fresh) (put Q (slot + 24) new)
    put_after whole inside short =
        let len : size Q ≡ size R = λ k. 8 * appends.wrote.as_long k + length (appends.wrote.same_rest k) in
        shows_after (put Q (slot + 24) new) (put_stored Q (slot + 24) new (omega (arith, whole)) (omega (arith, inside, len))
        (subst (λ (r : List ℕ). length r < 8) (sym appends.wrote.same_rest) short))

    -- a commit of the tail's word, done or not
    pub once_committed : slot % 8 ≡ 0 → slot + 32 ≤ size R → length R.rest < 8 → (left : Region) → (left ≡ Q) ⊎ (left ≡ put Q (slot + 24) new) → BeforeOrExtended R l held i h entries fresh left
    once_committed whole inside short left (inl same) = inl (subst (λ (X : Region). ShowsSound X l held) (sym same) (sound_before Q appends.wrote))
    once_committed whole inside short left (inr moved) = inr (subst (λ (X : Region). ShowsMoved R l (with_log held i h entries fresh) X) (sym moved) (put_after whole inside short))

    -- and by what was stored
    pub then_committed : slot % 8 ≡ 0 → slot + 32 ≤ size R → length R.rest < 8 → (left : Region) → (left ≡ Q) ⊎ (left ≡ put Q (slot + 24) new) → LooseOrExtended R l held i h slot tail entries fresh left
    then_committed whole inside short left (inl same) = inl (subst (λ (X : Region). IsMixed R (Loose l held) X) (sym same) (all_loose Q appends.wrote))
    then_committed whole inside short left (inr moved) = inr (
      subst (λ (X : Region). ShowsMoved R l (with_log held i h entries fresh) X) (sym moved) (put_after whole inside short),
      subst (λ (X : Region). IsMixed R (ExtendWords slot tail entries fresh) X) (sym moved)
          (mixed_put R Q (ExtendWords slot tail entries fresh) (slot + 24) new
          (mixed_more (ExtendWords slot tail entries fresh) (AppendWords tail fresh) R R Q (λ k x w. inl w) (mixed_same R (ExtendWords slot tail entries fresh)) appends.wrote) (inr (refl, is))),
    )

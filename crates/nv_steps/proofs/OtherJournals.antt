-- Two words that change together by the journal of a CPU leave the superblock and the journals of all other CPUs, also where a
-- stop leaves them and they are recovered.
use Rattle.std.proofs.Common.{◌≡◌, ◌≢◌, ℕ, zero, suc, ◌+◌, ◌*◌, ◌/◌, ◌%◌, ◌<◌, ◌≤◌, ◌==◌, ◌&&◌, inl, inr, Bool, true, false, cond, List, length, refl, ap, sym, ◌∙◌, arith, eqb-true, Some}
use Rattle.std.proofs.lemmas.Bool.{cases_lt}
use Rattle.std.proofs.lemmas.List.{get_or_past}
use Rattle.nv_region.specs.Region.{Region, word}
use Rattle.nv_region.specs.Stops.{Choices, IsMixed}
use Rattle.nv_region.proofs.Wordwise.{mixed_word}
use Rattle.nv_super.specs.declared.superblock.Super.{Super}
use Rattle.nv_super.specs.Layout.{IsLayout, slot_of, Layout}
use Rattle.nv_inode.specs.Chains.{layout_of}
use Rattle.nv_inode.specs.Permitted.{is_permitted_by}
use Rattle.nv_entry.specs.declared.entry.Entry.{Entry}
use Rattle.nv_journal.specs.Undo.{dequeue, enqueue, is_sound, journal, settled_word, undone, undone_word}
use Rattle.nv_journal.proofs.AnyLength.{undone_size}
use Rattle.nv_journal.proofs.KeptLinks.{own_rule}
use Rattle.nv_journal.proofs.Undone.{all_low, length_undo, word_undo}
use Rattle.nv_mounted.specs.Held.{Held, Store}
use Rattle.nv_mounted.specs.Loose.{Loose}
use Rattle.nv_mounted.specs.Mounted.{AreIdle}
use Rattle.nv_mounted.specs.Slots.{SlotsClear}
use Rattle.nv_mounted.proofs.BytesKept.{mixed_size}
use Rattle.nv_mounted.proofs.Kept.{pages_data, tail_there}
use Rattle.nv_mounted.proofs.Shown.{stands_at}
use Rattle.nv_commit.specs.declared.together.Extension.{Extension}
use Rattle.nv_commit.specs.declared.making.NewInode.{NewInode}
use Rattle.nv_commit.specs.Extends.{CanExtend, ExtendWords}
use Rattle.nv_commit.specs.Together.{CanExtendTwo, TogetherWords}
use Rattle.nv_commit.specs.Makes.{CanMake, MakeWords}
use Rattle.nv_commit.specs.Removes.{CanRemove, RemoveWords}
use Rattle.nv_commit.proofs.Extends.{loose_there, slots}
use Rattle.nv_commit.proofs.Makes.{prepared_loose}
use Rattle.nv_steps.specs.Fronts.{SameFrontBut}

-- ---- what was stored

-- of the words in front of the tables those of one journal alone were stored
pub stored_front : (R S : Region) (cpus cpu : ℕ) (these : Choices) → IsMixed R these S → ((k v : ℕ) → these k v → 8 * k < (1 + cpus) * 4096 → 8 * k / 4096 ≡ 1 + cpu) → SameFrontBut cpus cpu R S
stored_front R S cpus cpu these mixed here = record {
  len = mixed_size mixed;
  words = λ at whole low other. mixed_word R S these at whole mixed (λ v one. other (let there = here (at / 8) v one (omega (arith, whole, low)) in omega (arith, whole, there)));
}

module _ {R : Region} {l : Layout} {held : Store} {d : ℕ} {g : Held} {slot tail : ℕ} {entries : List Entry} {fresh : List ℕ} (can : CanExtend R l held d g slot tail entries fresh) (k v : ℕ) (low : 8 * k < (1 + l.sup.cpus) * 4096) where
  -- no loose word stands there
  pub off_loose : Loose l held k v → ⊥
  off_loose (inl free) = let from = free.from in omega (arith, from, low)
  off_loose (inr (inl w)) =
      let sound = can.sound in
      let shown = stands_at sound.shows w.0 w.1 w.2 in
      let system = pages_data shown.is.right shown.is.reads (w.1.tail / 4096) (tail_there shown.is.right shown.is.reads) in
      let page = w.3 in
      omega (arith, system, page, low)
  off_loose (inr (inr w)) =
      let clear : SlotsClear l held = slots can in
      let behind = clear.behind w.0 w.1 w.2 in
      let from = w.4 in
      omega (arith, behind, from, low)

  -- nor one of a slot
  pub off_slot : (m a at : ℕ) → slot_of l m ≡ Some a → a ≤ at → k ≡ at / 8 → ⊥
  off_slot m a at there from here =
      let clear : SlotsClear l held = slots can in
      let whole = clear.whole m a there in
      let behind = clear.behind m a there in
      omega (arith, here, from, whole, behind, low)

-- a word of this CPU's journal
pub in_block : (cpu k : ℕ) → journal cpu ≤ 8 * k → 8 * k < journal cpu + 4096 → 8 * k / 4096 ≡ 1 + cpu
in_block cpu k from below = omega (arith, from, below)

module _ {R : Region} {l : Layout} {held : Store} {cpu d e : ℕ} {g f : Held} {x y : Extension} (can : CanExtendTwo R l held cpu d g x e f y) where
  in_both : (k v : ℕ) → TogetherWords cpu x y k v → 8 * k < (1 + l.sup.cpus) * 4096 → 8 * k / 4096 ≡ 1 + cpu
  in_both k v (inl (inl w)) low = absurd (off_loose can.first k v low (loose_there can.first k v w))
  in_both k v (inl (inr w)) low = absurd (off_loose can.second k v low (loose_there can.second k v w))
  in_both k v (inr (inl w)) low = in_block cpu k w.0 w.1
  in_both k v (inr (inr (inl w))) low = absurd (off_slot can.first k v low d x.slot (x.slot + 24) can.first.at (omega arith) w.0)
  in_both k v (inr (inr (inr w))) low = absurd (off_slot can.first k v low e y.slot (y.slot + 24) can.second.at (omega arith) w.0)

  -- where two logs grow together
  pub together_front : (S : Region) → IsMixed R (TogetherWords cpu x y) S → SameFrontBut l.sup.cpus cpu R S
  together_front S mixed = stored_front R S l.sup.cpus cpu (TogetherWords cpu x y) mixed in_both

module _ {R : Region} {l : Layout} {held : Store} {cpu j : ℕ} {n : NewInode} {d : ℕ} {g : Held} {x : Extension} (can : CanMake R l held cpu j n d g x) where
  in_made : (k v : ℕ) → MakeWords cpu n x k v → 8 * k < (1 + l.sup.cpus) * 4096 → 8 * k / 4096 ≡ 1 + cpu
  in_made k v (inl w) low = absurd (off_loose can.parent k v low (prepared_loose can k v w))
  in_made k v (inr (inl w)) low = in_block cpu k w.0 w.1
  in_made k v (inr (inr (inl w))) low = absurd (off_slot can.parent k v low j n.slot n.slot can.at (omega arith) w.0)
  in_made k v (inr (inr (inr w))) low = absurd (off_slot can.parent k v low d x.slot (x.slot + 24) can.parent.at (omega arith) w.0)

  -- where an inode is made
  pub made_front : (S : Region) → IsMixed R (MakeWords cpu n x) S → SameFrontBut l.sup.cpus cpu R S
  made_front S mixed = stored_front R S l.sup.cpus cpu (MakeWords cpu n x) mixed in_made

module _ {R : Region} {l : Layout} {held : Store} {cpu d : ℕ} {g : Held} {x : Extension} {j slot : ℕ} (can : CanRemove R l held cpu d g x j slot) where
  in_removed : (k v : ℕ) → RemoveWords cpu x slot k v → 8 * k < (1 + l.sup.cpus) * 4096 → 8 * k / 4096 ≡ 1 + cpu
  in_removed k v (inl w) low = absurd (off_loose can.parent k v low (loose_there can.parent k v w))
  in_removed k v (inr (inl w)) low = in_block cpu k w.0 w.1
  in_removed k v (inr (inr (inl w))) low = absurd (off_slot can.parent k v low d x.slot (x.slot + 24) can.parent.at (omega arith) w.0)
  in_removed k v (inr (inr (inr w))) low = absurd (off_slot can.parent k v low j slot slot can.at (omega arith) w.0)

  -- where one goes
  pub removed_front : (S : Region) → IsMixed R (RemoveWords cpu x slot) S → SameFrontBut l.sup.cpus cpu R S
  removed_front S mixed = stored_front R S l.sup.cpus cpu (RemoveWords cpu x slot) mixed in_removed

-- Where one log grows, no journal is used at all.
module _ {R : Region} {l : Layout} {held : Store} {d : ℕ} {g : Held} {slot tail : ℕ} {entries : List Entry} {fresh : List ℕ} (can : CanExtend R l held d g slot tail entries fresh) (cpu : ℕ) where
  in_one : (k v : ℕ) → ExtendWords slot tail entries fresh k v → 8 * k < (1 + l.sup.cpus) * 4096 → 8 * k / 4096 ≡ 1 + cpu
  in_one k v (inl w) low = absurd (off_loose can k v low (loose_there can k v w))
  in_one k v (inr w) low = absurd (off_slot can k v low d slot (slot + 24) can.at (omega arith) w.0)

  pub extended_front : (S : Region) → IsMixed R (ExtendWords slot tail entries fresh) S → SameFrontBut l.sup.cpus cpu R S
  extended_front S mixed = stored_front R S l.sup.cpus cpu (ExtendWords slot tail entries fresh) mixed in_one

-- ---- what is recovered

-- a word that no journal settles, or that is settled as it stands
settled_same : (R : Region) (k at : ℕ) → ((c : ℕ) → c < k → journal c ≡ at → enqueue R c ≡ word R at) → settled_word R k at ≡ word R at
settled_same R zero at same = refl
settled_same R (suc k) at same = by (journal k == at) (is_sound R k) refl (settled_same R k at (λ c below is. same c (omega (arith, below)) is))
  where
    by : (here sound : Bool) → (journal k == at) ≡ here → settled_word R k at ≡ word R at → cond (here && sound) (enqueue R k) (settled_word R k at) ≡ word R at
    by true true here rest = same k (omega arith) (eqb-true (journal k) at here)
    by true false here rest = rest
    by false sound here rest = rest

module _ (s : Super) (cpu : ℕ) (R left : Region) (layout : IsLayout s) (idle : AreIdle s.cpus R) (front : SameFrontBut s.cpus cpu R left) (at : ℕ) (whole : at % 8 ≡ 0) (low : at < (1 + s.cpus) * 4096) (other : at / 4096 ≢ 1 + cpu) where
  -- the pointers of another journal are the same number
  pointers : (c : ℕ) → c < s.cpus → journal c ≡ at → enqueue left c ≡ word left at
  pointers c below here =
      let e : enqueue left c ≡ enqueue R c = front.words (journal c + 8) (omega arith) (omega (arith, below)) (λ same. other (omega (arith, here, same))) in
      let d : dequeue left c ≡ dequeue R c = front.words (journal c) (omega arith) (omega (arith, below)) (λ same. other (omega (arith, here, same))) in
      let w = idle c below in
      e ∙ sym w.1 ∙ sym d ∙ ap (word left) here

  stays : word (undone s left) at ≡ word left at
  stays = elim (cases_lt (at / 8) (length left.words)) [
    | inl within ↦ (
        let back : 8 * (at / 8) ≡ at = omega (arith, whole) in
        word_undo (is_permitted_by (layout_of s left)) ((1 + s.cpus) * 4096) (own_rule s left layout) s.cpus left (at / 8) within ∙ ap (undone_word (is_permitted_by (layout_of s left)) s.cpus left) back
        ∙ all_low (is_permitted_by (layout_of s left)) ((1 + s.cpus) * 4096) (own_rule s left layout) left s.cpus at (settled_word left s.cpus at) low ∙ settled_same left s.cpus at pointers)
    | inr past ↦ get_or_past (undone s left).words (at / 8) 0 (let same = length_undo (is_permitted_by (layout_of s left)) ((1 + s.cpus) * 4096) (own_rule s left layout) s.cpus left in omega (arith, same, past)) ∙ sym (get_or_past left.words (at / 8) 0 past)
  ]

-- Recovery leaves them too, where nothing was pending before.
pub undone_front : (s : Super) (cpu : ℕ) (R left : Region) → IsLayout s → AreIdle s.cpus R → SameFrontBut s.cpus cpu R left → SameFrontBut s.cpus cpu R (undone s left)
undone_front s cpu R left layout idle front = record {
  len = undone_size (is_permitted_by (layout_of s left)) s.cpus (own_rule s left layout) left ∙ front.len;
  words = λ at whole low other. stays s cpu R left layout idle front at whole low other ∙ front.words at whole low other;
}

-- Which of the two words of a commit is stored first: up to the commit, none of them changes.
use Rattle.std.proofs.Common.{◌≡◌, ◌≢◌, ℕ, ◌+◌, ◌/◌, ◌<◌, inl, inr, List, Option, Some, sym, ◌∙◌, subst, arith}
use Rattle.std.specs.List.{Contains}
use Rattle.std.proofs.lemmas.List.{get_or_default}
use Rattle.nv_region.specs.Region.{Region, word}
use Rattle.nv_region.specs.Stops.{IsMixed}
use Rattle.nv_region.proofs.Wordwise.{mixed_word}
use Rattle.nv_super.specs.Layout.{Layout, slot_of}
use Rattle.nv_entry.specs.declared.entry.Entry.{Entry}
use Rattle.nv_logpage.specs.Append.{AppendWords}
use Rattle.nv_mounted.specs.Held.{Held, HoldsInode, Shows, ShowsSlot, Store}
use Rattle.nv_mounted.specs.Mounted.{ShowsSound}
use Rattle.nv_mounted.specs.Slots.{SlotsClear, SlotsStand}
use Rattle.nv_mounted.proofs.Kept.{tail_there}
use Rattle.nv_commit.specs.Extends.{CanExtend}
use Rattle.nv_commit.proofs.Extends.{slots}

held_there : {R : Region} {l : Layout} {held : Store} {i slot : ℕ} {h : Held} → Shows R l held → slot_of l i ≡ Some slot → held i ≡ Some h → HoldsInode R l slot h
held_there {R} {l} {held} {i} {slot} shows at holds = subst (λ (o : Option Held). ShowsSlot R l slot o) holds (shows.slots i slot at)

-- two regions that show the same have the same tail in the slot of an inode in use
pub tail_same : {R S : Region} {l : Layout} {held : Store} {i slot : ℕ} {h : Held} → ShowsSound R l held → ShowsSound S l held → slot_of l i ≡ Some slot → held i ≡ Some h → word S (slot + 24) ≡ word R (slot + 24)
tail_same one two at holds = let was = held_there one.shows at holds in let is = held_there two.shows at holds in is.tail ∙ sym was.tail

-- words of two slots stand apart
pub slots_differ : {l : Layout} → SlotsStand l → (i j a b : ℕ) → slot_of l i ≡ Some a → slot_of l j ≡ Some b → i ≢ j → (k n : ℕ) → k < 128 → n < 128 → a + k ≢ b + n
slots_differ stand i j a b at there differ k n low less same = elim (stand.apart i j a b at there differ) [ inl before ↦ omega (arith, same, before, low, less) | inr behind ↦ omega (arith, same, behind, low, less) ]

module _ {R : Region} {l : Layout} {held : Store} {i : ℕ} {h : Held} {own tail : ℕ} {entries : List Entry} {fresh : List ℕ} (can : CanExtend R l held i h own tail entries fresh) where
  clear : SlotsClear l held
  clear = slots can

  tail_in : Contains h.pages (h.tail / 4096)
  tail_in = let sound = can.sound in let there = held_there sound.shows can.at can.holds in tail_there there.right there.reads

  -- no append stores a valid word
  pub away : (j slot : ℕ) → slot_of l j ≡ Some slot → (v : ℕ) → AppendWords tail fresh (slot / 8) v → ⊥
  away j slot at v (inl w) =
      let whole = clear.whole j slot at in
      let page = w.0 in
      let is = can.tail_is in
      clear.unpaged i h can.holds (h.tail / 4096) tail_in j slot at (omega (arith, whole, page, is))
  away j slot at v (inr w) =
      let whole = clear.whole j slot at in
      let page = w.2 in
      let at_place = get_or_default fresh w.0 (slot / 4096) 0 w.1 in
      clear.unfree (slot / 4096) (can.free (slot / 4096) (w.0, w.1, at_place ∙ sym page ∙ omega (arith, whole))) j slot at (omega arith)

  pub valid_same : (S : Region) (j slot : ℕ) → slot_of l j ≡ Some slot → IsMixed R (AppendWords tail fresh) S → word S slot ≡ word R slot
  valid_same S j slot at mixed = let whole = clear.whole j slot at in mixed_word R S (AppendWords tail fresh) slot (omega (arith, whole)) mixed (away j slot at)

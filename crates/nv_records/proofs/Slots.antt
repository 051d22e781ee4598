-- The slot of an inode, found by its address among the blocks of slots, and the words of a slot that a journal may name.
use Rattle.std.proofs.Common.{◌≡◌, ◌⊎◌, ◌≤◌, ◌<◌, ◌+◌, ◌-◌, ◌*◌, ◌%◌, ◌∙◌, ℕ, inl, inr, ap, sym, subst, arith, length, Option, Some, None, IfSome}
use Rattle.std.specs.Prelude.{slice_get}
use Rattle.std.specs.List.{Contains}
use Rattle.std.proofs.lemmas.Option.{get_or_from_slice_get, slice_get-get_or, slice_get_within}
use Rattle.nv_super.specs.Layout.{Layout, slot_of}
use Rattle.nv_inode.specs.declared.blocks.SlotBlock.{SlotBlock}
use Rattle.nv_inode.specs.Chains.{IsLaid}
use Rattle.nv_inode.specs.Permitted.{NamesSlotBy}
use Rattle.nv_inode.specs.SlotBlocks.{IsSmallBlock, slot_blocks}
use Rattle.nv_inode.proofs.BlockBounds.{small_block}
use Rattle.nv_inode.proofs.BlocksOfSlots.{block_found, slots_are}
use Rattle.nv_inode.proofs.LayoutWords.{slot_lies, slot_stands}
use Rattle.nv_records.specs.Records.{HoldsSlot, StandsIn}

has_block : (l : Layout) (t : ℕ) (x : SlotBlock) → slice_get (slot_blocks l) t ≡ Some x → Contains (slot_blocks l) x
has_block l t x there = (t, slice_get_within (slot_blocks l) t x there, get_or_from_slice_get (slot_blocks l) t x x there)

pub small_here : (l : Layout) (t : ℕ) (x : SlotBlock) → IsLaid l → slice_get (slot_blocks l) t ≡ Some x → IsSmallBlock l.sup x
small_here l t x laid there = small_block l x laid (has_block l t x there)

pub slot_number : (l : Layout) (t : ℕ) (x : SlotBlock) (at i : ℕ) → IsLaid l → slice_get (slot_blocks l) t ≡ Some x → StandsIn x l.sup.cpus at i → slot_of l i ≡ Some at
slot_number l t x at i laid there stands =
    slots_are l x stands.0 i laid (has_block l t x there) (record { within = stands.1; number = stands.2 }) stands.3 ∙ ap Some (sym stands.4)

-- the same of what may have been found
pub some_number : (l : Layout) (t : ℕ) (x : SlotBlock) (cpus at : ℕ) → IsLaid l → slice_get (slot_blocks l) t ≡ Some x → cpus ≡ l.sup.cpus
    → (r : Option ℕ) → IfSome r (StandsIn x cpus at) → IfSome r (λ i. slot_of l i ≡ Some at)
some_number l t x cpus at laid there same None stands = tt
some_number l t x cpus at laid there same (Some i) stands = slot_number l t x at i laid there (subst (λ (n : ℕ). StandsIn x n at i) same stands)

some_same : {A : Type 0} (a b : A) → Some a ≡ Some b → a ≡ b
some_same a b same = cc

pub not_held : (l : Layout) (t : ℕ) (x : SlotBlock) (at : ℕ) → slice_get (slot_blocks l) t ≡ Some x → ((i : ℕ) → ¬ StandsIn x l.sup.cpus at i) → ¬ HoldsSlot l t at
not_held l t x at there none (y, i, also, stands) =
    let same : y ≡ x = some_same y x (sym also ∙ there) in
    none i (subst (λ (z : SlotBlock). StandsIn z l.sup.cpus at i) same stands)

pub none_behind : (l : Layout) (t at : ℕ) → length (slot_blocks l) ≤ t → ¬ HoldsSlot l t at
none_behind l t at behind (y, i, also, stands) = let within = slice_get_within (slot_blocks l) t y also in omega (arith, within, behind)

some_slot : (l : Layout) (at i : ℕ) → slot_of l i ≡ Some at → i ≡ 0 → ⊥
some_slot l at i e zero = let never : None ≡ Some at = sym (ap (slot_of l) zero) ∙ e in cc

-- a slot is in one of the blocks
pub all_searched : (l : Layout) (at i n : ℕ) → IsLaid l → slot_of l i ≡ Some at → length (slot_blocks l) ≤ n → ((t : ℕ) → t < n → ¬ HoldsSlot l t at) → ⊥
all_searched l at i n laid e all none =
    let f = block_found l i at laid e in
    let t : ℕ = f.2.0 in
    let less = f.2.1 in
    none t (omega (arith, less, all)) (f.0, i, slice_get-get_or (slot_blocks l) t f.0 less ∙ ap Some f.2.2, (f.1, f.3.within, f.3.number, some_slot l at i e, f.4))

-- ---- the words of a slot

module _ (l : Layout) (at : ℕ) (laid : IsLaid l) (named : NamesSlotBy l at) where
  whole : named.1 % 128 ≡ 0
  whole = slot_stands l named.0 (Some named.1) laid (sym named.2)

  pub key_offset : (at % 128 ≡ 0) ⊎ ((at % 128 ≡ 16) ⊎ (at % 128 ≡ 24))
  key_offset = let start = whole in elim named.3 [
    | inl is ↦ inl (omega (arith, is, start))
    | inr (inl is) ↦ inr (inl (omega (arith, is, start)))
    | inr (inr is) ↦ inr (inr (omega (arith, is, start)))
  ]

  start_is : named.1 ≡ at - at % 128
  start_is = let start = whole in elim named.3 [
    | inl is ↦ omega (arith, is, start)
    | inr (inl is) ↦ omega (arith, is, start)
    | inr (inr is) ↦ omega (arith, is, start)
  ]

  pub slot_there : (i : ℕ) × (slot_of l i ≡ Some (at - at % 128))
  slot_there = (named.0, named.2 ∙ ap Some start_is)

  pub word_inside : at + 8 ≤ 4096 * l.sup.blocks
  word_inside = let lies = slot_lies l named.0 (Some named.1) laid (sym named.2) in elim named.3 [
    | inl is ↦ omega (arith, is, lies)
    | inr (inl is) ↦ omega (arith, is, lies)
    | inr (inr is) ↦ omega (arith, is, lies)
  ]

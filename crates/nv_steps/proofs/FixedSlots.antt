-- Slots of the fixed layout.
use Rattle.std.proofs.Common.{◌≡◌, ◌↔◌, inl, inr, ℕ, ◌<◌, sym, subst, arith, Some, IsTrue}
use Rattle.std.proofs.lemmas.Bool.{cases_eq}
use Rattle.nv_super.specs.declared.superblock.Super.{Super}
use Rattle.nv_super.specs.Layout.{IsLayout, Layout, fixed_layout, is_number, slot_address, slot_of}
use Rattle.nv_inode.specs.Numbers.{has_slot}
use Rattle.nv_inode.proofs.FixedLayout.{fixed_laid}
use Rattle.nv_inode.proofs.KeyWords.{number_holds}
use Rattle.nv_inode.proofs.LayoutWords.{fixed_slot}
use Rattle.nv_inode.proofs.NumberEnds.{below_end, fixed_end}
use Rattle.nv_inode.proofs.Slots.{number_above, number_below, row_below}
use Rattle.nv_steps.specs.Slots.{slot_in}
use Rattle.nv_steps.proofs.SlotPlaces.{slot_has, slot_known, slot_there_is}

-- a number below the limit has the slot of its place
place_there : (s : Super) (i : ℕ) → IsLayout s → IsTrue (is_number s i) → slot_of (fixed_layout s) i ≡ Some (slot_address s i)
place_there s i layout number =
    let above = number_above s i number in
    let cpus = layout.cpus_from in
    fixed_slot (fixed_layout s) i (λ zero. omega (arith, above, zero)) (row_below s.cpus s.table_blocks i (omega (arith, cpus)) (number_below s i number))

none_at_zero : (l : Layout) (a : ℕ) → slot_of l 0 ≡ Some a → ⊥
none_at_zero l a e = cc

above_zero : (l : Layout) (i a : ℕ) → slot_of l i ≡ Some a → 0 < i
above_zero l i a e = elim (cases_eq i 0) [ inl zero ↦ absurd (none_at_zero l a (subst (λ (n : ℕ). slot_of l n ≡ Some a) zero e)) | inr some ↦ omega (arith, some) ]

-- and no other has one
number_there : (s : Super) (i : ℕ) → IsLayout s → IsTrue (has_slot (fixed_layout s) i) → IsTrue (is_number s i)
number_there s i layout has =
    let e = slot_there_is (fixed_layout s) i has in
    let below = below_end (fixed_layout s) i (slot_in (fixed_layout s) i) (fixed_laid s layout) e in
    let end = fixed_end s in
    number_holds s i (above_zero (fixed_layout s) i (slot_in (fixed_layout s) i) e) (omega (arith, below, end))

pub fixed_numbers : (s : Super) (i : ℕ) → IsLayout s → IsTrue (has_slot (fixed_layout s) i) ↔ IsTrue (is_number s i)
fixed_numbers s i layout = (number_there s i layout, λ number. slot_has (fixed_layout s) i (slot_address s i) (place_there s i layout number))

pub fixed_address : (s : Super) (i : ℕ) → IsLayout s → IsTrue (is_number s i) → slot_in (fixed_layout s) i ≡ slot_address s i
fixed_address s i layout number = sym (slot_known (fixed_layout s) i (slot_address s i) (place_there s i layout number))

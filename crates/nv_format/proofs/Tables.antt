-- The words that format stores, apart from one another.
use Rattle.std.proofs.Common.{◌≡◌, ◌≢◌, inl, inr, ℕ, ◌+◌, ◌*◌, ◌<◌, ◌≤◌, ◌∙◌, arith}
use Rattle.std.proofs.Math.Nat.{le-mul_of_pos_right}
use Rattle.nv_super.specs.declared.superblock.Super.{Super}
use Rattle.nv_super.specs.Layout.{IsLayout, slot_address, inode_limit}
use Rattle.nv_inode.specs.Slot.{nth_slot}
use Rattle.nv_inode.proofs.Places.{place, place_below, slot_place, one_place, slot_at_place, slot_from}
use Rattle.nv_format.specs.Format.{IsPointer, IsValidWord, IsRootWord, root_page}

pub some_slots : (s : Super) → IsLayout s → 32 ≤ inode_limit s
some_slots s layout = let more : s.cpus ≤ s.cpus * s.table_blocks = le-mul_of_pos_right s.cpus (let from = layout.tables_from in omega arith) in omega (arith, more, layout.cpus_from)

pub slot_to : (s : Super) (i : ℕ) → IsLayout s → i < inode_limit s → slot_address s i + 128 ≤ root_page s
slot_to s i layout below = let e = slot_place s i in let last = place_below s i layout below in omega (arith, e, last)

pub root_below : (s : Super) → IsLayout s → 1 < inode_limit s
root_below s layout = let some = some_slots s layout in omega arith

-- at each place of the tables lies the valid word of a slot
pub valid_at : (s : Super) (k at : ℕ) → IsLayout s → k < inode_limit s → at ≡ nth_slot s k → IsValidWord s at
valid_at s k at layout below is = let slot = slot_at_place s k layout below in (slot.0, slot.1, is ∙ slot.2)

-- what lies before the journals' end, and what lies before them
pub no_valid_word : (s : Super) (a : ℕ) → a < (1 + s.cpus) * 4096 → IsValidWord s a → ⊥
no_valid_word s a low valid = let from = slot_from s valid.0 in let is = valid.2 in omega (arith, from, is, low)

pub no_pointer : (s : Super) (a : ℕ) → a < 4096 → IsPointer s a → ⊥
no_pointer s a low pointer = elim pointer.2 [ inl e ↦ omega (arith, e, low) | inr e ↦ omega (arith, e, low) ]

pub no_root_word : (s : Super) (a : ℕ) → IsLayout s → a < (1 + s.cpus) * 4096 → IsRootWord s a → ⊥
no_root_word s a layout low root =
    let from = slot_from s 1 in
    let to = slot_to s 1 layout (root_below s layout) in
    elim root [ inl slot ↦ (let at = slot.0 in omega (arith, from, at, low)) | inr entry ↦ (let at = entry.0 in omega (arith, from, to, at, low)) ]

-- another slot's valid word isn't among the root's words
pub other_slot : (s : Super) (i : ℕ) → IsLayout s → i < inode_limit s → i ≢ 1 → IsRootWord s (slot_address s i) → ⊥
other_slot s i layout below differ root =
    let here = slot_place s i in
    let there = slot_place s 1 in
    let to = slot_to s i layout below in
    elim root [
      | inl slot ↦ (let from = slot.0 in let end = slot.1 in differ (one_place s i 1 layout below (root_below s layout) (same (place s i) (place s 1) from end here there)))
      | inr entry ↦ (let at = entry.0 in omega (arith, to, at))
    ]
  where
    same : (k r : ℕ) → slot_address s 1 ≤ slot_address s i → slot_address s i < slot_address s 1 + 40 → slot_address s i ≡ (1 + s.cpus) * 4096 + 128 * k → slot_address s 1 ≡ (1 + s.cpus) * 4096 + 128 * r → k ≡ r
    same k r from end here there = omega (arith, from, end, here, there)

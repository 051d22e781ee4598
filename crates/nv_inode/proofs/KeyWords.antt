-- Where the words stand that a journal may name, and the inode of each slot of the fixed tables.
use Rattle.std.proofs.Common.{◌≡◌, ◌⊎◌, ℕ, inl, inr, ◌+◌, ◌-◌, ◌*◌, ◌/◌, ◌%◌, ◌<◌, ◌≤◌, IsTrue, ap, arith}
use Rattle.std.proofs.Math.Nat.{le-mul_of_pos_right}
use Rattle.std.proofs.lemmas.Nat.{div_below, mod_below, div-add-mod', div-mul-add, mod-mul-add, mul-add-lt}
use Rattle.std.proofs.lemmas.Bool.Decides.{nat_tests}
use Rattle.std.proofs.lemmas.Bool.{cases_eq}
use Rattle.nv_super.specs.declared.superblock.Super.{Super}
use Rattle.nv_super.specs.Layout.{IsLayout, system_blocks, slot_address, is_number}
use Rattle.nv_inode.specs.Permitted.{is_permitted, IsKeyWord, LiesBehind}
use Rattle.nv_inode.proofs.Slots.{slot_inside, slot_behind, slot_whole}

-- the three parts of the test
test_parts : (s : Super) (at : ℕ) → IsTrue (is_permitted s at)
    → ((1 + s.cpus) * 4096 + 128 ≤ at) × (at < system_blocks s * 4096) × ((at % 128 ≡ 0) ⊎ ((at % 128 ≡ 16) ⊎ (at % 128 ≡ 24)))
test_parts s at permitted = grind (arith, nat_tests)

test_holds : (s : Super) (at : ℕ) → (1 + s.cpus) * 4096 + 128 ≤ at → at < system_blocks s * 4096 → (at % 128 ≡ 0) ⊎ ((at % 128 ≡ 16) ⊎ (at % 128 ≡ 24)) → IsTrue (is_permitted s at)
test_holds s at behind before offset = grind (arith, nat_tests)

-- a number within the tables is one that an inode can have
pub number_holds : (s : Super) (i : ℕ) → 0 < i → i < 32 * s.cpus * s.table_blocks → IsTrue (is_number s i)
number_holds s i above below = grind (arith, nat_tests)

-- each address that is permitted is of a whole word behind the journals
pub lies_behind : (s : Super) → LiesBehind (is_permitted s) ((1 + s.cpus) * 4096)
lies_behind s at permitted =
    let parts = test_parts s at permitted in
    let behind = parts.0 in
    (omega (arith, behind), multiple at parts.2)
  where
    multiple : (at : ℕ) → (at % 128 ≡ 0) ⊎ ((at % 128 ≡ 16) ⊎ (at % 128 ≡ 24)) → at % 8 ≡ 0
    multiple at offset = elim offset [ inl e ↦ omega arith | inr other ↦ elim other [ inl e ↦ omega arith | inr e ↦ omega arith ] ]

-- the valid, head or tail word of the slot of an inode's number is permitted
pub named_permitted : (s : Super) (i at : ℕ) → IsLayout s → IsTrue (is_number s i) → IsKeyWord (slot_address s i) at → IsTrue (is_permitted s at)
named_permitted s i at layout number word = key s (slot_address s i) at (slot_inside s i layout number) (slot_behind s i layout number) (slot_whole s i) word
  where
    key : (s : Super) (slot at : ℕ) → slot + 128 ≤ system_blocks s * 4096 → (1 + s.cpus) * 4096 + 128 ≤ slot → slot % 128 ≡ 0 → IsKeyWord slot at → IsTrue (is_permitted s at)
    key s slot at inside behind whole word = elim word [
      | inl e ↦ test_holds s at (omega arith) (omega arith) (inl (omega arith))
      | inr other ↦ elim other [
        | inl e ↦ test_holds s at (omega arith) (omega arith) (inr (inl (omega arith)))
        | inr e ↦ test_holds s at (omega arith) (omega arith) (inr (inr (omega arith)))
      ]
    ]

-- The inode whose slot is the m-th of the tables: its CPU, its place in the table of that CPU, and its number.
pub cpu : ℕ → ℕ → ℕ
cpu T m = m / (32 * T)

pub place : ℕ → ℕ → ℕ
place T m = m % (32 * T)

pub inode : ℕ → ℕ → ℕ → ℕ
inode C T m = place T m * C + cpu T m

module _ (C T m : ℕ) (some : 0 < C) (tables : 0 < T) (above : 0 < m) (below : m < C * (32 * T)) where
  cpu_below : cpu T m < C
  unfolding cpu
  cpu_below = div_below m (32 * T) C (omega arith) below

  place_below : place T m < 32 * T
  unfolding place
  place_below = mod_below m (32 * T) (omega arith)

  split : cpu T m * (32 * T) + place T m ≡ m
  unfolding cpu place
  split = div-add-mod' m (32 * T)

  inode_cpu : inode C T m % C ≡ cpu T m
  unfolding inode
  inode_cpu = mod-mul-add (place T m) C (cpu T m) cpu_below

  inode_place : inode C T m / C ≡ place T m
  unfolding inode
  inode_place = div-mul-add (place T m) C (cpu T m) cpu_below

  pub inode_below : inode C T m < 32 * C * T
  unfolding inode
  inode_below = let r = mul-add-lt (place T m) C (cpu T m) (32 * T) place_below cpu_below in omega (arith, r)

  pub inode_above : 0 < inode C T m
  unfolding inode
  inode_above =
      let some_place : place T m ≤ place T m * C = le-mul_of_pos_right (place T m) some in
      elim (cases_eq (cpu T m) 0) [
        | inl e ↦ (let none : cpu T m * (32 * T) ≡ 0 * (32 * T) = ap (λ k. k * (32 * T)) e in omega (arith, none, split, some_place, above))
        | inr other ↦ omega (arith, other)
      ]

  pub inode_slot : (1 + C + inode C T m % C * T) * 4096 + inode C T m / C * 128 ≡ (1 + C) * 4096 + 128 * m
  inode_slot =
      let table : inode C T m % C * T ≡ cpu T m * T = ap (λ k. k * T) inode_cpu in
      omega (arith, table, inode_place, split)

-- the number of the 128 bytes in which an address of the tables lies
pub place_of : (C T at : ℕ) → (1 + C) * 4096 + 128 ≤ at → at < (1 + C + C * T) * 4096
    → (m : ℕ) × (0 < m) × (m < C * (32 * T)) × (at ≡ (1 + C) * 4096 + 128 * m + at % 128)
place_of C T at behind before = ((at - (1 + C) * 4096) / 128, omega arith, omega arith, omega arith)

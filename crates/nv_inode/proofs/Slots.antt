-- Where the slots lie.
use Rattle.std.proofs.Common.{◌≡◌, ◌≢◌, ℕ, inl, inr, ◌+◌, ◌*◌, ◌/◌, ◌%◌, ◌<◌, ◌≤◌, IsTrue, arith}
use Rattle.std.proofs.Math.Nat.{mul-le-mul_right, mod-eq_of_lt}
use Rattle.std.proofs.lemmas.Nat.{div_below, le-div}
use Rattle.std.proofs.lemmas.Bool.Decides.{nat_tests}
use Rattle.std.proofs.lemmas.Bool.{cases_eq, cases_lt}
use Rattle.nv_super.specs.declared.superblock.Super.{Super}
use Rattle.nv_super.specs.Layout.{IsLayout, system_blocks, slot_address, is_number}
use Rattle.nv_super.proofs.Slots.{before_data, numbered}

-- the numbers of inodes
pub number_above : (s : Super) (i : ℕ) → IsTrue (is_number s i) → 0 < i
number_above s i number = grind (arith, nat_tests)

pub number_below : (s : Super) (i : ℕ) → IsTrue (is_number s i) → i < 32 * s.cpus * s.table_blocks
number_below s i number = grind (arith, nat_tests)

-- the place of a slot in the table of its CPU
pub row_below : (C T i : ℕ) → 0 < C → i < 32 * C * T → i / C < 32 * T
row_below C T i some below = div_below i C (32 * T) some (omega arith)

-- a slot stands whole before the data blocks
pub slot_inside : (s : Super) (i : ℕ) → IsLayout s → IsTrue (is_number s i) → slot_address s i + 128 ≤ system_blocks s * 4096
slot_inside s i layout number = let before = before_data s layout i (slot_address s i) (numbered s layout i (number_below s i number)) in omega (arith, before)

later_place : (C i : ℕ) → 0 < C → 0 < i → i % C ≡ 0 → 1 ≤ i / C
later_place C i some above first = le-div 1 i C some (mod_zero_le C i some above first)
  where
    mod_zero_le : (C i : ℕ) → 0 < C → 0 < i → i % C ≡ 0 → 1 * C ≤ i
    mod_zero_le C i some above first = elim (cases_lt i C) [
      | inl less ↦ absurd (let same = mod-eq_of_lt less in omega (arith, same, first, above))
      | inr more ↦ omega arith
    ]

at_least_one : (c T : ℕ) → c ≢ 0 → T ≤ c * T
at_least_one c T some = let one : 1 * T ≤ c * T = mul-le-mul_right T (omega arith) in omega (arith, one)

-- a slot stands behind the journals, and that of number 0 is the first
slot_begins : (C T i : ℕ) → 0 < C → 0 < T → 0 < i → (1 + C) * 4096 + 128 ≤ (1 + C + i % C * T) * 4096 + i / C * 128
slot_begins C T i some tables above =
    elim (cases_eq (i % C) 0) [
      | inl first ↦ (let later : 1 ≤ i / C = later_place C i some above first in omega (arith, later))
      | inr other ↦ (let wide : T ≤ i % C * T = at_least_one (i % C) T other in omega (arith, wide, tables))
    ]

pub slot_behind : (s : Super) (i : ℕ) → IsLayout s → IsTrue (is_number s i) → (1 + s.cpus) * 4096 + 128 ≤ slot_address s i
slot_behind s i layout number = slot_begins s.cpus s.table_blocks i (omega (arith, layout.cpus_from)) (omega (arith, layout.tables_from)) (number_above s i number)

pub slot_whole : (s : Super) (i : ℕ) → slot_address s i % 128 ≡ 0
slot_whole s i = omega arith

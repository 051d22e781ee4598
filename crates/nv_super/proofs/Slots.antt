-- Slots in the fixed tables are whole, lie between the journals and the data blocks, and stand apart.
use Rattle.std.proofs.Common.{◌≡◌, ◌≢◌, ◌⊎◌, inl, inr, ℕ, zero, suc, ◌+◌, ◌-◌, ◌*◌, ◌/◌, ◌%◌, ◌<◌, ◌≤◌, ◌==◌, nat_lt, Bool, true, false, if◌then◌else◌, List, [], Some, None, refl, ap, sym, arith}
use Rattle.std.specs.Prelude.{slice_get, unwrap_or, replicate}
use Rattle.std.proofs.Math.Nat.{mul-le-mul_right}
use Rattle.std.proofs.lemmas.Nat.{div_below}
use Rattle.std.proofs.lemmas.Bool.{cases_order, ltb-true}
use Rattle.nv_super.specs.Layout.{system_blocks, slot_address, slot_of, fixed_layout, extra_slot, chain_of, IsLayout, SlotsApart}
use Rattle.nv_super.specs.declared.superblock.Super.{Super}

-- each of so many empty chains is empty
empty_chain : (n c : ℕ) → unwrap_or (slice_get (replicate {A = List ℕ} n []) c) [] ≡ []
empty_chain zero c = refl
empty_chain (suc n) zero = refl
empty_chain (suc n) (suc c) = empty_chain n c

-- no CPU has a chain in the layout of fixed tables
pub no_chain : (s : Super) (c : ℕ) → chain_of (fixed_layout s) c ≡ []
no_chain s c = empty_chain s.cpus c

-- so no slot stands behind the fixed tables
pub none_behind : (s : Super) (c k j : ℕ) → extra_slot j (slice_get (chain_of (fixed_layout s) c) k) ≡ None
none_behind s c k j = ap (λ (blocks : List ℕ). extra_slot j (slice_get blocks k)) (no_chain s c)

-- the slot of an inode in a fixed table
pub record IsSlot (s : Super) (i a : ℕ) : Type 0 where
  pub low : i / s.cpus < 32 * s.table_blocks
  pub is : a ≡ slot_address s i

-- from a slot to its place in the table of its CPU
pub slot_is : (s : Super) (i a : ℕ) → slot_of (fixed_layout s) i ≡ Some a → IsSlot s i a
slot_is s i a = at (i == 0) where
  further : (b : Bool) → nat_lt (i / s.cpus) (32 * s.table_blocks) ≡ b
      → (if b then Some (slot_address s i) else extra_slot ((i / s.cpus - 32 * s.table_blocks) % 31) (slice_get (chain_of (fixed_layout s) (i % s.cpus)) ((i / s.cpus - 32 * s.table_blocks) / 31))) ≡ Some a → IsSlot s i a
  further true low e = record { low = ltb-true _ _ low; is = (let is : slot_address s i ≡ a = cc in sym is) }
  further false low e = absurd (none e) where
    none : extra_slot ((i / s.cpus - 32 * s.table_blocks) % 31) (slice_get (chain_of (fixed_layout s) (i % s.cpus)) ((i / s.cpus - 32 * s.table_blocks) / 31)) ≡ Some a → ⊥
    none e = let past = none_behind s (i % s.cpus) ((i / s.cpus - 32 * s.table_blocks) / 31) ((i / s.cpus - 32 * s.table_blocks) % 31) in cc

  at : (b : Bool)
      → (if b then None else (if nat_lt (i / s.cpus) (32 * s.table_blocks) then Some (slot_address s i) else extra_slot ((i / s.cpus - 32 * s.table_blocks) % 31) (slice_get (chain_of (fixed_layout s) (i % s.cpus)) ((i / s.cpus - 32 * s.table_blocks) / 31)))) ≡ Some a → IsSlot s i a
  at true e = absurd (cc)
  at false e = further (nat_lt (i / s.cpus) (32 * s.table_blocks)) refl e

-- a table ends where the next begins
table_ends : (s : Super) (c d : ℕ) → c < d → c * s.table_blocks + s.table_blocks ≤ d * s.table_blocks
table_ends s c d less = let m : suc c * s.table_blocks ≤ d * s.table_blocks = mul-le-mul_right s.table_blocks less in omega (arith, m)

cpu_below : (s : Super) (i : ℕ) → 0 < s.cpus → i % s.cpus < s.cpus
cpu_below s i some = omega arith

-- each slot stands in its CPU's table
within_table : (s : Super) (i a : ℕ) → IsSlot s i a → ((1 + s.cpus + i % s.cpus * s.table_blocks) * 4096 ≤ a) × (a + 128 ≤ (1 + s.cpus + i % s.cpus * s.table_blocks + s.table_blocks) * 4096)
within_table s i a slot = (omega (arith, slot.is, slot.low), omega (arith, slot.is, slot.low))

same_number : (s : Super) (i j : ℕ) → 0 < s.cpus → i % s.cpus ≡ j % s.cpus → i / s.cpus ≡ j / s.cpus → i ≡ j
same_number s i j some cpus slots = grind arith

module _ (s : Super) (layout : IsLayout s) where
  some : 0 < s.cpus
  some = layout.cpus_from

  other_tables : (i j a b : ℕ) → IsSlot s i a → IsSlot s j b → i % s.cpus < j % s.cpus → a + 128 ≤ b
  other_tables i j a b left right less =
      let ends = table_ends s (i % s.cpus) (j % s.cpus) less in
      let first = within_table s i a left in
      let second = within_table s j b right in
      omega (arith, ends, first.1, second.0)

  one_table : (i j a b : ℕ) → IsSlot s i a → IsSlot s j b → i % s.cpus ≡ j % s.cpus → i / s.cpus < j / s.cpus → a + 128 ≤ b
  one_table i j a b left right same less =
      let rows : i % s.cpus * s.table_blocks ≡ j % s.cpus * s.table_blocks = ap (λ (c : ℕ). c * s.table_blocks) same in
      omega (arith, left.is, right.is, rows, less)

  apart : (i j a b : ℕ) → IsSlot s i a → IsSlot s j b → i ≢ j → (a + 128 ≤ b) ⊎ (b + 128 ≤ a)
  apart i j a b left right differ = elim (cases_order (i % s.cpus) (j % s.cpus)) [
    | inr order ↦ elim order [
      | inl less ↦ inl (other_tables i j a b left right less)
      | inr more ↦ inr (other_tables j i b a right left more)
    ]
    | inl same ↦ elim (cases_order (i / s.cpus) (j / s.cpus)) [
      | inl equal ↦ absurd (differ (same_number s i j some same equal))
      | inr order ↦ elim order [
        | inl less ↦ inl (one_table i j a b left right same less)
        | inr more ↦ inr (one_table j i b a right left (sym same) more)
      ]
    ]
  ]

  pub before_data : (i a : ℕ) → IsSlot s i a → a + 128 ≤ 4096 * system_blocks s
  before_data i a slot =
      let ends = table_ends s (i % s.cpus) s.cpus (cpu_below s i some) in
      let within = within_table s i a slot in
      omega (arith, ends, within.1)

  -- the slot of a number within the fixed tables
  pub numbered : (i : ℕ) → i < 32 * s.cpus * s.table_blocks → IsSlot s i (slot_address s i)
  numbered i below = record { low = div_below i s.cpus (32 * s.table_blocks) some (omega (arith, below)); is = refl }

  pub slot_fits : (i : ℕ) → i < 32 * s.cpus * s.table_blocks → slot_address s i + 128 ≤ 4096 * s.blocks
  slot_fits i below = let before = before_data i (slot_address s i) (numbered i below) in omega (arith, before, layout.areas.room)

  pub slots_apart : SlotsApart (fixed_layout s)
  slots_apart = record {
    whole = λ i a e. (let slot = slot_is s i a e in omega (arith, slot.is));
    behind = λ i a e. (let within = within_table s i a (slot_is s i a e) in omega (arith, within.0));
    before = λ i a e. before_data i a (slot_is s i a e);
    apart = λ i j a b e f. apart i j a b (slot_is s i a e) (slot_is s j b f);
  }

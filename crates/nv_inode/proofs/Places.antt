-- The places of the slots in the tables: one slot at each, and each slot at one.
use Rattle.std.proofs.Common.{◌≡◌, inl, inr, ℕ, ◌+◌, ◌*◌, ◌/◌, ◌%◌, ◌<◌, ◌≤◌, ap, sym, ◌∙◌, arith}
use Rattle.std.proofs.lemmas.Nat.{mod_below, div-add-mod', div-mul-add, mod-mul-add, mul-add-lt}
use Rattle.std.proofs.lemmas.Bool.{cases_eq}
use Rattle.nv_super.specs.declared.superblock.Super.{Super}
use Rattle.nv_super.specs.Layout.{IsLayout, slot_address, inode_limit}
use Rattle.nv_inode.specs.Slot.{nth_slot}
use Rattle.nv_inode.proofs.KeyWords.{inode, inode_below, inode_slot}
use Rattle.nv_inode.proofs.Slots.{row_below}

-- the place of an inode's slot among all slots of the tables
abbrev pub place : Super → ℕ → ℕ
place s i = i % s.cpus * (32 * s.table_blocks) + i / s.cpus

some_cpus : (s : Super) → IsLayout s → 0 < s.cpus
some_cpus s layout = let from = layout.cpus_from in omega arith

pub place_below : (s : Super) (i : ℕ) → IsLayout s → i < inode_limit s → place s i < inode_limit s
place_below s i layout below = at s.cpus s.table_blocks (some_cpus s layout) below
  where
    at : (C T : ℕ) → 0 < C → i < 32 * C * T → i % C * (32 * T) + i / C < 32 * C * T
    at C T some below = let row = mul-add-lt (i % C) (32 * T) (i / C) C (mod_below i C some) (row_below C T i some below) in omega (arith, row)

pub slot_place : (s : Super) (i : ℕ) → slot_address s i ≡ nth_slot s (place s i)
slot_place s i = at s.cpus s.table_blocks (i % s.cpus) (i / s.cpus)
  where
    at : (C T a b : ℕ) → (1 + C + a * T) * 4096 + b * 128 ≡ (1 + C) * 4096 + 128 * (a * (32 * T) + b)
    at C T a b = omega arith

-- no two slots have one place
pub one_place : (s : Super) (i j : ℕ) → IsLayout s → i < inode_limit s → j < inode_limit s → place s i ≡ place s j → i ≡ j
one_place s i j layout below_i below_j same = at s.cpus s.table_blocks (some_cpus s layout) below_i below_j same
  where
    at : (C T : ℕ) → 0 < C → i < 32 * C * T → j < 32 * C * T → i % C * (32 * T) + i / C ≡ j % C * (32 * T) + j / C → i ≡ j
    at C T some below_i below_j same =
        let cpu_i = div-mul-add (i % C) (32 * T) (i / C) (row_below C T i some below_i) in
        let cpu_j = div-mul-add (j % C) (32 * T) (j / C) (row_below C T j some below_j) in
        let row_i = mod-mul-add (i % C) (32 * T) (i / C) (row_below C T i some below_i) in
        let row_j = mod-mul-add (j % C) (32 * T) (j / C) (row_below C T j some below_j) in
        let cpus : i % C ≡ j % C = sym cpu_i ∙ ap (λ (n : ℕ). n / (32 * T)) same ∙ cpu_j in
        let rows : i / C ≡ j / C = sym row_i ∙ ap (λ (n : ℕ). n % (32 * T)) same ∙ row_j in
        sym (div-add-mod' i C) ∙ ap (λ (q : ℕ). q * C + i % C) rows ∙ ap (λ (r : ℕ). j / C * C + r) cpus ∙ div-add-mod' j C

-- at each place lies the slot of a number
pub slot_at_place : (s : Super) (k : ℕ) → IsLayout s → k < inode_limit s → (i : ℕ) × (i < inode_limit s) × (nth_slot s k ≡ slot_address s i)
slot_at_place s k layout below = at s.cpus s.table_blocks (some_cpus s layout) (let from = layout.tables_from in omega arith) below
  where
    first : (C T : ℕ) → 0 < C → (1 + C) * 4096 ≡ (1 + C + 0 % C * T) * 4096 + 0 / C * 128
    first C T some =
        let cpu : 0 % C ≡ 0 = omega arith in
        let row : 0 / C ≡ 0 = omega arith in
        let table : 0 % C * T ≡ 0 * T = ap (λ (c : ℕ). c * T) cpu in
        omega (arith, table, row)

    at : (C T : ℕ) → 0 < C → 0 < T → k < 32 * C * T → (i : ℕ) × (i < 32 * C * T) × ((1 + C) * 4096 + 128 * k ≡ (1 + C + i % C * T) * 4096 + i / C * 128)
    at C T some tables below = elim (cases_eq k 0) [
      | inl zero_place ↦ (0, omega arith, (let e = first C T some in omega (arith, e, zero_place)))
      | inr other ↦ (let above : 0 < k = omega (arith, other) in let within : k < C * (32 * T) = omega (arith, below) in (inode C T k, inode_below C T k some tables above within, sym (inode_slot C T k some tables above within)))
    ]

pub slot_aligned : (s : Super) (i : ℕ) → slot_address s i % 8 ≡ 0
slot_aligned s i = let e = slot_place s i in omega (arith, e)

pub slot_from : (s : Super) (i : ℕ) → (1 + s.cpus) * 4096 ≤ slot_address s i
slot_from s i = let e = slot_place s i in omega (arith, e)

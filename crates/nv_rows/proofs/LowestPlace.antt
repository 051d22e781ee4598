-- The first place of a CPU's table that isn't in use is that of its lowest unused number.
use Rattle.std.proofs.Common.{◌≡◌, ◌≢◌, ℕ, ◌+◌, ◌*◌, ◌<◌, ◌≤◌, cond, true, false, is_none, is_some, List, length, get_or, Option, Some, None, refl, sym, ap, ◌∙◌, inl, inr, arith}
use Rattle.std.proofs.Math.Nat.{mul-le-mul_right}
use Rattle.std.proofs.lemmas.Bool.{cases_eq}
use Rattle.nv_super.specs.declared.superblock.Super.{Super}
use Rattle.nv_scan.specs.declared.piece.Row.{Row}
use Rattle.nv_rows.specs.InUse.{has_number, used_at, AreRows, UsedSets}
use Rattle.nv_rows.specs.Slots.{rows_in}
use Rattle.nv_rows.specs.Unused.{is_unused, lowest_of}
use Rattle.nv_rows.proofs.Numbers.{found_here, from_behind, none_left, free_number, used_number}
use Rattle.nv_rows.proofs.SlotRows.{row_at_slot}

-- Where the search begins: no number but 0 stands before it, and 0 does.
pub record Begins (cpu from : ℕ) : Type 0 where
  pub first : cpu ≡ 0 → from ≡ 1
  pub later : cpu ≢ 0 → from ≡ 0

-- the search begins no later than at the place of a number other than 0
begins_before : (cpu from k cpus : ℕ) → Begins cpu from → 0 < k * cpus + cpu → from ≤ k
begins_before cpu from k cpus begins number = elim (cases_eq cpu 0) [
  | inl first ↦
      let at = begins.first first in
      elim (cases_eq k 0) [
        | inl none ↦ let product : k * cpus ≡ 0 * cpus = ap (λ (j : ℕ). j * cpus) none in absurd (omega (arith, number, product, first))
        | inr slot ↦ omega (arith, at, slot)
      ]
  | inr differs ↦ let at = begins.later differs in omega (arith, at)
]

-- and no number from there on is 0
number_some : (cpu from k cpus : ℕ) → Begins cpu from → 0 < cpus → from ≤ k → 0 < k * cpus + cpu
number_some cpu from k cpus begins some behind = elim (cases_eq cpu 0) [
  | inl first ↦ let at = begins.first first in let one : 1 * cpus ≤ k * cpus = mul-le-mul_right cpus (omega (arith, at, behind)) in omega (arith, one, some)
  | inr differs ↦ omega (arith, differs)
]

used_one : (slot : Option Row) → ◌≡◌ {A = ℕ} (cond (is_some slot) 1 0) 1 → is_none slot ≡ false
used_one None one = absurd (omega (arith, one))
used_one (Some row) one = refl

used_none : (slot : Option Row) → ◌≡◌ {A = ℕ} (cond (is_some slot) 1 0) 0 → is_none slot ≡ true
used_none None none = refl
used_none (Some row) none = absurd (omega (arith, none))

module _ (s : Super) (slots : List (Option Row)) (used : UsedSets) (all : AreRows s slots used) (cpu : ℕ) (cpu_below : cpu < s.cpus) where
  abbrev size : ℕ
  size = get_or used.sizes cpu 0

  -- what the sets say of a place of the CPU's table
  told_at : (k : ℕ) → has_number used.sets (k * length used.sizes + cpu) ≡ used_at slots (k * s.cpus + cpu)
  told_at k = ap (λ (m : ℕ). has_number used.sets (k * m + cpu)) all.cpus ∙ all.tells.told (k * s.cpus + cpu)

  module _ (from : ℕ) (begins : Begins cpu from) (place : ℕ) (low : from ≤ place) (high : place ≤ size) (set : (b : ℕ) → from ≤ b → b < place → has_number used.sets (b * length used.sizes + cpu) ≡ 1) where
    places_used : (k : ℕ) → k < place → is_unused (rows_in slots) (k * s.cpus + cpu) ≡ false
    places_used k early =
        used_number (rows_in slots) (k * s.cpus + cpu) (λ some.
        let one = sym (told_at k) ∙ set k (begins_before cpu from k s.cpus begins some) early in
        ap is_none (row_at_slot slots (k * s.cpus + cpu) all.stand) ∙ used_one (get_or slots (k * s.cpus + cpu) None) one)

    -- all are used where the search came to the end
    pub all_used : place ≡ size → None ≡ lowest_of s.cpus size (rows_in slots) cpu
    all_used end = sym (none_left (is_unused (rows_in slots)) (λ k. k * s.cpus + cpu) size place (omega (arith, end)) places_used)

    -- and else the number at the place is the lowest
    pub lowest : place ≢ size → (place < size → has_number used.sets (place * length used.sizes + cpu) ≡ 0) → Some (place * s.cpus + cpu) ≡ lowest_of s.cpus size (rows_in slots) cpu
    lowest early clear =
        let inside : place < size = omega (arith, early, high) in
        let none = sym (told_at place) ∙ clear inside in
        let some = number_some cpu from place s.cpus begins (omega (arith, cpu_below)) low in
        let free = free_number (rows_in slots) (place * s.cpus + cpu) some (ap is_none (row_at_slot slots (place * s.cpus + cpu) all.stand) ∙ used_none (get_or slots (place * s.cpus + cpu) None) none) in
        sym (from_behind (is_unused (rows_in slots)) (λ k. k * s.cpus + cpu) size place places_used
        ∙ found_here (is_unused (rows_in slots)) (λ k. k * s.cpus + cpu) size place inside free)

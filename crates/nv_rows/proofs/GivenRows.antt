-- Rows that came in any order, and stand in the slots of their numbers then.
use Rattle.std.proofs.Common.{◌≡◌, ◌↔◌, ℕ, zero, suc, ◌<◌, List, [], ◌∷◌, length, get_or, slice_get, Option, Some, None, refl, sym, ap, subst, ◌∙◌, zero-add, inl, inr, arith, Contains}
use Rattle.std.specs.List.{All}
use Rattle.std.proofs.lemmas.List.{length-map}
use Rattle.std.proofs.lemmas.Option.{slice_get-get_or}
use Rattle.nv_super.specs.Order.{SortedOf}
use Rattle.nv_super.proofs.Members.{stands}
use Rattle.nv_super.proofs.Rising.{Contains-cons, Contains-head, Contains-tail}
use Rattle.nv_scan.specs.declared.piece.Row.{Row}
use Rattle.nv_rows.specs.Rows.{row_key, inodes_of}
use Rattle.nv_rows.specs.Slots.{rows_in, StandByNumber}
use Rattle.nv_rows.proofs.SlotRows.{rows_rise}

-- the number of the row at a place
number_at : (rows : List Row) (k : ℕ) (d : Row) → k < length rows → get_or (inodes_of rows) k 0 ≡ (get_or rows k d).inode
number_at [] k d inside = absurd (omega (arith, inside))
number_at (x ∷ rows) zero d inside = refl
number_at (x ∷ rows) (suc k) d inside = number_at rows k d (omega (arith, inside))

number_of : (rows : List Row) (k : ℕ) (row : Row) → slice_get rows k ≡ Some row → get_or (inodes_of rows) k 0 ≡ row.inode
number_of [] k row at = absurd (cc)
number_of (x ∷ rows) zero row at = let same : x ≡ row = cc in ap (λ (r : Row). r.inode) same
number_of (x ∷ rows) (suc k) row at = number_of rows k row at

-- each number is one of the listed ones
pub number_is : (P : ℕ → Type 0) (rows : List Row) → ((k : ℕ) → k < length (inodes_of rows) → P (get_or (inodes_of rows) k 0)) → (k : ℕ) (d : Row) → k < length rows → P (get_or rows k d).inode
number_is P rows given k d inside = subst P (number_at rows k d inside) (given k (omega (arith, inside, length-map rows (λ (r : Row). r.inode))))

-- what holds of each row's number
pub listed_numbers : (P : ℕ → Type 0) (rows : List Row) → All (λ (row : Row). P row.inode) rows → (k : ℕ) → k < length (inodes_of rows) → P (get_or (inodes_of rows) k 0)
listed_numbers P [] all k inside = absurd (omega (arith, inside))
listed_numbers P (x ∷ rows) all k inside = subst P (sym (number_at (x ∷ rows) k x within)) (all k x within)
  where
    within : k < length (x ∷ rows)
    within = omega (arith, inside, length-map (x ∷ rows) (λ (r : Row). r.inode))

-- a listed row stands in a slot
slot_of_row : (slots : List (Option Row)) (row : Row) → Contains (rows_in slots) row → (k : ℕ) × (get_or slots k None ≡ Some row)
slot_of_row [] row listed = absurd (omega (arith, listed.1))
slot_of_row (None ∷ rest) row listed = let later = slot_of_row rest row listed in (suc later.0, later.1)
slot_of_row (Some x ∷ rest) row listed =
    elim (Contains-cons x (rows_in rest) row listed) [
      | inl e ↦ (0, ap (λ (r : Row). Some r) (sym e))
      | inr there ↦ let later = slot_of_row rest row there in (suc later.0, later.1)
    ]

row_of_slot : (slots : List (Option Row)) (k : ℕ) (row : Row) → get_or slots k None ≡ Some row → Contains (rows_in slots) row
row_of_slot [] k row at = absurd (cc)
row_of_slot (None ∷ rest) zero row at = absurd (cc)
row_of_slot (Some x ∷ rest) zero row at = let same : x ≡ row = cc in rw (← same) (Contains-head x (rows_in rest))
row_of_slot (None ∷ rest) (suc k) row at = row_of_slot rest k row at
row_of_slot (Some x ∷ rest) (suc k) row at = Contains-tail x (rows_in rest) row (row_of_slot rest k row at)

-- a slot has a row just where the row and its number stand at one place
abbrev pub SlotsOf : List Row → List (Option Row) → Type 0
SlotsOf rows slots = (number : ℕ) (row : Row) → (get_or slots number None ≡ Some row) ↔ ((k : ℕ) × (get_or (inodes_of rows) k 0 ≡ number) × (slice_get rows k ≡ Some row))

pub given_stand : (rows : List Row) (slots : List (Option Row)) → SlotsOf rows slots → StandByNumber 0 slots
given_stand rows slots each number row at =
    let place = (each number row).0 at in
    sym (number_of rows place.0 row place.2) ∙ place.1 ∙ sym (zero-add number)

-- the rows of the slots are the given ones
pub given_sorted : (rows : List Row) (slots : List (Option Row)) → SlotsOf rows slots → SortedOf row_key rows (rows_in slots)
given_sorted rows slots each =
    record {
      rising = rows_rise 0 slots (given_stand rows slots each);
      from = λ row listed.
          let slot = slot_of_row slots row listed in
          let place = (each slot.0 row).0 slot.1 in
          stands rows place.0 row place.2;
      kept = λ row given.
          let at : slice_get rows given.0 ≡ Some row = slice_get-get_or rows given.0 row given.1 ∙ ap (λ (r : Row). Some r) given.2 in
          row_of_slot slots row.inode row ((each row.inode row).1 (given.0, number_of rows given.0 row at, at));
    }

-- each given row has a number
pub many_numbers : (rows : List Row) → length (inodes_of rows) ≡ length rows
many_numbers rows = length-map rows (λ (r : Row). r.inode)

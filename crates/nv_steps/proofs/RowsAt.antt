-- Rows of which one was replaced.
use Rattle.std.proofs.Common.{◌≡◌, ℕ, zero, suc, ◌<◌, List, [], ◌∷◌, length, set, slice_get, refl, sym, subst, arith, Some, ◌≢◌, ap}
use Rattle.nv_outcome.specs.Same.{SameRow, SameRows}
use Rattle.nv_scan.specs.declared.piece.Row.{Row}

pub at_set : (rows : List Row) (place : ℕ) (new : Row) → place < length rows → slice_get (set rows place new) place ≡ Some new
at_set [] place new inside = absurd (omega (arith, inside))
at_set (x ∷ rows) zero new inside = refl
at_set (x ∷ rows) (suc place) new inside = at_set rows place new (omega (arith, inside))

pub same_row : (r : Row) → SameRow r r
same_row r = record { inode = refl; kind = refl; numbers = refl; head = refl; tail = refl; pages = refl; index = λ p. refl; names = λ q. refl }

pub same_rows : (rows : List Row) → SameRows rows rows
same_rows [] = tt
same_rows (x ∷ rows) = (same_row x, same_rows rows)

-- the rows are the same where one was replaced by the same
pub set_same_rows : (rows : List Row) (place : ℕ) (row new : Row) → slice_get rows place ≡ Some row → SameRow row new → SameRows rows (set rows place new)
set_same_rows [] place row new at same = absurd (cc)
set_same_rows (x ∷ rows) zero row new at same = (let is : x ≡ row = cc in subst (λ (r : Row). SameRow r new) (sym is) same, same_rows rows)
set_same_rows (x ∷ rows) (suc place) row new at same = (same_row x, set_same_rows rows place row new at same)

-- the rows at other places stay
pub other_set : (rows : List Row) (i j : ℕ) (new : Row) → i ≢ j → slice_get (set rows i new) j ≡ slice_get rows j
other_set [] i j new differ = refl
other_set (x ∷ rows) zero zero new differ = absurd (differ refl)
other_set (x ∷ rows) zero (suc j) new differ = refl
other_set (x ∷ rows) (suc i) zero new differ = refl
other_set (x ∷ rows) (suc i) (suc j) new differ = other_set rows i j new (λ e. differ (ap suc e))

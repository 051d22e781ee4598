-- Rows of which two were replaced.
use Rattle.std.proofs.Common.{◌≡◌, ◌≢◌, ℕ, zero, suc, ◌<◌, List, [], ◌∷◌, length, set, slice_get, refl, ap, sym, ◌∙◌, subst, Some}
use Rattle.std.proofs.lemmas.Option.{slice_get_within}
use Rattle.nv_scan.specs.declared.piece.Row.{Row}
use Rattle.nv_outcome.specs.Same.{SameRow, SameRows}
use Rattle.nv_steps.proofs.RowsAt.{at_set, same_rows, set_same_rows, other_set}

-- what is put at a place again stands there alone
pub set_twice : (rows : List Row) (i : ℕ) (a b : Row) → set (set rows i a) i b ≡ set rows i b
set_twice [] i a b = refl
set_twice (x ∷ rows) zero a b = refl
set_twice (x ∷ rows) (suc i) a b = ap (λ (rs : List Row). x ∷ rs) (set_twice rows i a b)

-- and so with two places
pub both_twice : (rows : List Row) (i j : ℕ) (a b c d : Row) → i ≢ j → set (set (set (set rows i a) j b) i c) j d ≡ set (set rows i c) j d
both_twice [] i j a b c d differ = refl
both_twice (x ∷ rows) zero zero a b c d differ = absurd (differ refl)
both_twice (x ∷ rows) zero (suc j) a b c d differ = ap (λ (rs : List Row). c ∷ rs) (set_twice rows j b d)
both_twice (x ∷ rows) (suc i) zero a b c d differ = ap (λ (rs : List Row). d ∷ rs) (set_twice rows i a c)
both_twice (x ∷ rows) (suc i) (suc j) a b c d differ = ap (λ (rs : List Row). x ∷ rs) (both_twice rows i j a b c d (λ e. differ (ap suc e)))

module _ (rows : List Row) (i j : ℕ) (a b c d : Row) (at : slice_get rows i ≡ Some a) (other_at : slice_get rows j ≡ Some b) (differ : i ≢ j) where
  inside : i < length rows
  inside = slice_get_within rows i a at

  still : slice_get (set rows i c) j ≡ Some b
  still = other_set rows i j c differ ∙ other_at

  -- what stands at both places then
  pub first_set : slice_get (set (set rows i c) j d) i ≡ Some c
  first_set = other_set (set rows i c) j i d (λ e. differ (sym e)) ∙ at_set rows i c inside

  pub second_set : slice_get (set (set rows i c) j d) j ≡ Some d
  second_set = at_set (set rows i c) j d (slice_get_within (set rows i c) j b still)

-- rows are the same where two were replaced by the same
pub both_same : (rows : List Row) (i j : ℕ) (a c b d : Row) → slice_get rows i ≡ Some a → slice_get rows j ≡ Some b → i ≢ j → SameRow a c → SameRow b d → SameRows rows (set (set rows i c) j d)
both_same [] i j a c b d at other_at differ same other_same = absurd (cc)
both_same (x ∷ rows) zero zero a c b d at other_at differ same other_same = absurd (differ refl)
both_same (x ∷ rows) zero (suc j) a c b d at other_at differ same other_same = (let is : x ≡ a = cc in subst (λ (r : Row). SameRow r c) (sym is) same, set_same_rows rows j b d other_at other_same)
both_same (x ∷ rows) (suc i) zero a c b d at other_at differ same other_same = (let is : x ≡ b = cc in subst (λ (r : Row). SameRow r d) (sym is) other_same, set_same_rows rows i a c at same)
both_same (x ∷ rows) (suc i) (suc j) a c b d at other_at differ same other_same = ((same_rows (x ∷ [])).0, both_same rows i j a c b d at other_at (λ e. differ (ap suc e)) same other_same)

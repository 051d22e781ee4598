-- Where the oldest unmarked claim of a block stands.
use Rattle.std.proofs.Common.{◌≡◌, ℕ, suc, ◌+◌, ◌-◌, ◌<◌, ◌≤◌, cond, ltb, true, false, List, [], ◌∷◌, ◌++◌, length, length-append, get_or, set, sym, refl, ap, ◌∙◌, arith}
use Rattle.std.specs.List.{count_by}
use Rattle.std.proofs.lemmas.List.Sums.{sum_by-cons}
use mathlib.Core.Bool.{Bool}
use Rattle.nv_claimcore.specs.declared.view.Record.{Record}
use Rattle.nv_claimcore.specs.Claims.{is_unmarked, claim_of, mark, mark_first, place_of, Owes}
use Rattle.nv_claimcore.proofs.Marks.{marks_last}

-- the mark is a write at that place, where there is one
pub mark_at : (b : ℕ) (rs : List Record) (d : Record) → place_of b rs < length rs → mark_first b rs ≡ set rs (place_of b rs) (mark (get_or rs (place_of b rs) d))
mark_at b [] d l = absurd (omega arith)
mark_at b (r ∷ rs) d l = go (is_unmarked b r) (mark_at b rs d) l where
  go : (t : Bool) → (place_of b rs < length rs → mark_first b rs ≡ set rs (place_of b rs) (mark (get_or rs (place_of b rs) d))) → cond t 0 (1 + place_of b rs) < length (r ∷ rs)
      → cond t (mark r ∷ rs) (r ∷ mark_first b rs) ≡ set (r ∷ rs) (cond t 0 (1 + place_of b rs)) (mark (get_or (r ∷ rs) (cond t 0 (1 + place_of b rs)) d))
  go true again l = refl
  go false again l = let e : 1 + place_of b rs ≡ suc (place_of b rs) = omega arith in ap (λ zs. r ∷ zs) (again (omega arith)) ∙ ap (λ k. set (r ∷ rs) k (mark (get_or (r ∷ rs) k d))) (sym e)

pub none_at : (b : ℕ) (rs : List Record) → length rs ≤ place_of b rs → mark_first b rs ≡ rs
none_at b [] l = refl
none_at b (r ∷ rs) l = go (is_unmarked b r) (none_at b rs) l where
  go : (t : Bool) → (length rs ≤ place_of b rs → mark_first b rs ≡ rs) → length (r ∷ rs) ≤ cond t 0 (1 + place_of b rs) → cond t (mark r ∷ rs) (r ∷ mark_first b rs) ≡ r ∷ rs
  go true again l = absurd (omega arith)
  go false again l = ap (λ zs. r ∷ zs) (again (omega arith))

pub some_at : (b : ℕ) (rs : List Record) → ltb (place_of b rs) (length rs) ≡ ltb 0 (count_by (is_unmarked b) rs)
some_at b [] = refl
some_at b (r ∷ rs) = go (is_unmarked b r) refl (some_at b rs) where
  go : (t : Bool) → is_unmarked b r ≡ t → ltb (place_of b rs) (length rs) ≡ ltb 0 (count_by (is_unmarked b) rs) → ltb (cond t 0 (1 + place_of b rs)) (length (r ∷ rs)) ≡ ltb 0 (count_by (is_unmarked b) (r ∷ rs))
  go true e again = let sum = sum_by-cons (λ q. cond (is_unmarked b q) 1 0) r rs in let one : ◌≡◌ {A = ℕ} (cond (is_unmarked b r) 1 0) 1 = ap (λ t. cond t 1 0) e in grind (arith, sum, one)
  go false e again = let sum = sum_by-cons (λ q. cond (is_unmarked b q) 1 0) r rs in let none : ◌≡◌ {A = ℕ} (cond (is_unmarked b r) 1 0) 0 = ap (λ t. cond t 1 0) e in grind (arith, sum, none, again)

set_end : {A : Type 0} (xs : List A) (x y : A) → set (xs ++ x ∷ []) (length xs) y ≡ xs ++ y ∷ []
set_end [] x y = refl
set_end (z ∷ xs) x y = ap (λ zs. z ∷ zs) (set_end xs x y)

-- the one record that is unmarked is the last
pub mark_end : (b : ℕ) (rs : List Record) (d : Record) → Owes b rs → set rs (length rs - 1) (mark (get_or rs (length rs - 1) d)) ≡ mark_first b rs
mark_end b rs d owes =
    let last : length rs - 1 ≡ length owes.0 = (let long = ap length owes.2 in omega (arith, length-append {A = Record})) in
    let found : get_or rs (length rs - 1) d ≡ claim_of b owes.1 false = (λ i. get_or (owes.2 i) (last i) d) ∙ get_or_end owes.0 (claim_of b owes.1 false) d in
    (λ i. set (owes.2 i) (last i) (mark (found i))) ∙ (set_end owes.0 (claim_of b owes.1 false) (mark (claim_of b owes.1 false)) ∙ (sym (marks_last b owes.1 owes.0 owes.3) ∙ ap (mark_first b) (sym owes.2))) where
      get_or_end : (xs : List Record) (x d : Record) → get_or (xs ++ x ∷ []) (length xs) d ≡ x
      get_or_end [] x d = refl
      get_or_end (z ∷ xs) x d = get_or_end xs x d

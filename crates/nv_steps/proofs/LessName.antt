-- Names without one of them.
use Rattle.std.proofs.Common.{◌≡◌, ℕ, cond, nat_eq, Bool, true, false, List, [], ◌∷◌, refl, ap, sym, ◌∙◌, Some, None}
use Rattle.std.specs.Cmp.Lexicographic.{pointwise}
use Rattle.std.specs.List.{AllByRecursion, IsDistinct}
use Rattle.std.proofs.lemmas.Map.Keys.{IsDistinct-cons}
use Rattle.nv_names.specs.Names.{found_in, names_of}
use Rattle.nv_super.proofs.Sorted.{same_keys}

-- all but those of this name
abbrev pub without : List ℕ → List (List ℕ × ℕ × ℕ) → List (List ℕ × ℕ × ℕ)
without name [] = []
without name (e ∷ es) = cond (pointwise nat_eq name e.0) (without name es) (e ∷ without name es)

-- each other name is found as it was
pub found_without : (es : List (List ℕ × ℕ × ℕ)) (name q : List ℕ) → found_in (without name es) q ≡ cond (pointwise nat_eq q name) None (found_in es q)
found_without [] name q = by (pointwise nat_eq q name) where
  by : (b : Bool) → found_in [] q ≡ cond b None (found_in [] q)
  by true = refl
  by false = refl
found_without (e ∷ es) name q = step (pointwise nat_eq name e.0) refl (pointwise nat_eq q e.0) refl (pointwise nat_eq q name) refl (found_without es name q) where
  named : pointwise nat_eq q name ≡ true → pointwise nat_eq q e.0 ≡ pointwise nat_eq name e.0
  named is = ap (λ (n : List ℕ). pointwise nat_eq n e.0) (same_keys q name is)

  own : pointwise nat_eq name e.0 ≡ true → pointwise nat_eq q name ≡ pointwise nat_eq q e.0
  own is = ap (λ (n : List ℕ). pointwise nat_eq q n) (same_keys name e.0 is)

  step : (b : Bool) → pointwise nat_eq name e.0 ≡ b → (c : Bool) → pointwise nat_eq q e.0 ≡ c → (d : Bool) → pointwise nat_eq q name ≡ d → found_in (without name es) q ≡ cond d None (found_in es q)
      → found_in (cond b (without name es) (e ∷ without name es)) q ≡ cond d None (cond c (Some (e.1, e.2)) (found_in es q))
  step true is true here true there rest = rest
  step true is true here false there rest = absurd (let clash : false ≡ true = sym there ∙ own is ∙ here in cc)
  step true is false here true there rest = rest
  step true is false here false there rest = rest
  step false is true here true there rest = absurd (let clash : true ≡ false = sym here ∙ named there ∙ is in cc)
  step false is true here false there rest = ap (λ (t : Bool). cond t (Some (e.1, e.2)) (found_in (without name es) q)) here
  step false is false here true there rest = ap (λ (t : Bool). cond t (Some (e.1, e.2)) (found_in (without name es) q)) here ∙ rest
  step false is false here false there rest = ap (λ (t : Bool). cond t (Some (e.1, e.2)) (found_in (without name es) q)) here ∙ rest

-- nor is one that wasn't there
pub absent_without : (es : List (List ℕ × ℕ × ℕ)) (name q : List ℕ) → found_in es q ≡ None → found_in (without name es) q ≡ None
absent_without es name q none = found_without es name q ∙ by (pointwise nat_eq q name) none where
  by : (b : Bool) → found_in es q ≡ None → cond b None (found_in es q) ≡ None
  by true none = refl
  by false none = none

all_without : (P : List ℕ → Type 0) (es : List (List ℕ × ℕ × ℕ)) (name : List ℕ) → AllByRecursion P (names_of es) → AllByRecursion P (names_of (without name es))
all_without P [] name all = tt
all_without P (e ∷ es) name all = by (pointwise nat_eq name e.0) (all_without P es name all.1) where
  by : (b : Bool) → AllByRecursion P (names_of (without name es)) → AllByRecursion P (names_of (cond b (without name es) (e ∷ without name es)))
  by true rest = rest
  by false rest = (all.0, rest)

-- and no name is there twice
pub once_without : (es : List (List ℕ × ℕ × ℕ)) (name : List ℕ) → IsDistinct (pointwise nat_eq) (names_of es) → IsDistinct (pointwise nat_eq) (names_of (without name es))
unfolding IsDistinct
once_without [] name once = tt
once_without (e ∷ es) name once = by (pointwise nat_eq name e.0) (once_without es name once.1) where
  by : (b : Bool) → IsDistinct (pointwise nat_eq) (names_of (without name es)) → IsDistinct (pointwise nat_eq) (names_of (cond b (without name es) (e ∷ without name es)))
  by true rest = rest
  by false rest = IsDistinct-cons (pointwise nat_eq) e.0 (names_of (without name es)) (all_without (λ y. pointwise nat_eq e.0 y ≡ false) es name once.0) rest

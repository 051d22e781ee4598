-- Two lists with the same pairs, each as often, have the same sums.
use Rattle.std.proofs.Common.{◌≡◌, ℕ, ◌+◌, ◌<◌, cond, true, false, List, [], ◌∷◌, refl, ap, arith}
use Rattle.std.specs.List.{sum_by}
use Rattle.std.specs.Cmp.Lexicographic.{nat_list_eq_equiv}
use Rattle.std.proofs.lemmas.List.Sums.{sum_by-cons}
use mathlib.Core.Bool.{Bool}
use Rattle.nv_super.specs.declared.owners.Owner.{Owner}
use Rattle.nv_super.specs.Order.{claim_key}
use Rattle.nv_super.proofs.Sorted.{claim_key_only, same_keys}
use Rattle.nv_claimcore.specs.Finished.{same_pair, pair_times}

same_pair_true : (p : ℕ × Owner) → same_pair p p ≡ true
same_pair_true p = nat_list_eq_equiv.refl (claim_key p)

same_pair_only : (p q : ℕ × Owner) → same_pair p q ≡ true → p ≡ q
same_pair_only p q e = claim_key_only p q (same_keys (claim_key p) (claim_key q) e)

pair_here : (p : ℕ × Owner) (ps : List (ℕ × Owner)) → 0 < pair_times p (p ∷ ps)
pair_here p ps = let sum = sum_by-cons (λ y. cond (same_pair p y) 1 0) p ps in let one : ◌≡◌ {A = ℕ} (cond (same_pair p p) 1 0) 1 = ap (λ t. cond t 1 0) (same_pair_true p) in omega arith

-- the list with one of the pair less
without_one : ℕ × Owner → List (ℕ × Owner) → List (ℕ × Owner)
without_one p [] = []
without_one p (y ∷ ys) = cond (same_pair p y) ys (y ∷ without_one p ys)

sum_without_one : (f : ℕ × Owner → ℕ) (p : ℕ × Owner) (ys : List (ℕ × Owner)) → 0 < pair_times p ys → sum_by f ys ≡ f p + sum_by f (without_one p ys)
unfolding without_one
sum_without_one f p [] some = absurd (omega arith)
sum_without_one f p (y ∷ ys) some = go (sum_without_one f p ys) (same_pair p y) refl where
  go : (0 < pair_times p ys → sum_by f ys ≡ f p + sum_by f (without_one p ys)) → (t : Bool) → same_pair p y ≡ t → sum_by f (y ∷ ys) ≡ f p + sum_by f (cond t ys (y ∷ without_one p ys))
  go again true e = let sum = sum_by-cons f y ys in let same : f p ≡ f y = ap f (same_pair_only p y e) in omega arith
  go again false e = let count = sum_by-cons (λ q. cond (same_pair p q) 1 0) y ys in let none : ◌≡◌ {A = ℕ} (cond (same_pair p y) 1 0) 0 = ap (λ t. cond t 1 0) e in
      let rest = again (omega arith) in let sum = sum_by-cons f y ys in let sum' = sum_by-cons f y (without_one p ys) in omega arith

pub same_sums_of_pairs : (f : ℕ × Owner → ℕ) (xs ys : List (ℕ × Owner)) → ((p : ℕ × Owner) → pair_times p xs ≡ pair_times p ys) → sum_by f xs ≡ sum_by f ys
same_sums_of_pairs f [] [] same = refl
same_sums_of_pairs f [] (y ∷ ys) same = let none = same y in let some = pair_here y ys in absurd (omega arith)
same_sums_of_pairs f (x ∷ xs) ys same = let some = pair_here x xs in let here = same x in let found : 0 < pair_times x ys = omega arith in
    let rest = same_sums_of_pairs f xs (without_one x ys) (λ p. let h = same p in let cut = sum_without_one (λ q. cond (same_pair p q) 1 0) x ys found in let all = sum_by-cons (λ q. cond (same_pair p q) 1 0) x xs in omega arith) in
    let cut = sum_without_one f x ys found in let all = sum_by-cons f x xs in omega arith

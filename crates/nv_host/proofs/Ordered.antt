-- Names have one order.
use Rattle.std.proofs.Common.{◌≡◌, ◌∙◌, ℕ, ◌+◌, ◌<◌, nat_eq, Bool, true, false, cond, refl, sym, ap, subst, List, [], ◌∷◌, suc, add-one, arith}
use Rattle.std.specs.List.{Contains, sum_by}
use Rattle.std.specs.List.Sorted.{IsPermutation, IsSorted}
use Rattle.std.specs.Ordering.{nat_cmp, is_lt, ordering_reverse}
use Rattle.std.specs.declared.cmp.Ordering.{Ordering}
use Rattle.std.specs.declared.cmp.Ordering.TheVariants.{Less, Equal, Greater}
use Rattle.std.specs.Cmp.Lexicographic.{pointwise, slice_cmp, nat_list_cmp_total, bytes_decides, nat_list_eq_equiv}
use Rattle.std.proofs.lemmas.Bool.{true≢false}
use Rattle.std.proofs.lemmas.List.Elements.{Contains-append_right}
use Rattle.std.proofs.lemmas.List.Sorted.{IsPermutation-sym, IsPermutation-trans, ranks_by, sorted_far, sum_by-IsPermutation}
use Rattle.std.proofs.lemmas.List.Sums.{sum_by-cons}
use Rattle.std.proofs.lemmas.Map.Lookups.{exact_bytes}
use Rattle.nv_host.specs.Names.{ListsNames, names_listed}

-- how often a name stands in a list
abbrev one_for : List ℕ → List ℕ → ℕ
one_for q x = cond (pointwise nat_eq q x) 1 0

abbrev times : List ℕ → List (List ℕ) → ℕ
times q [] = 0
times q (x ∷ xs) = one_for q x + times q xs

times_sum : (q : List ℕ) (xs : List (List ℕ)) → times q xs ≡ sum_by (one_for q) xs
times_sum q [] = refl
times_sum q (x ∷ xs) = ap (λ n. one_for q x + n) (times_sum q xs) ∙ sym (sum_by-cons (one_for q) x xs)

abbrev AreAlike : List (List ℕ) → List (List ℕ) → Type 0
AreAlike xs ys = (q : List ℕ) → times q xs ≡ times q ys

once : (x : List ℕ) → one_for x x ≡ 1
once x = ap (λ b. cond b 1 0) (nat_list_eq_equiv.refl x)

-- a name that stands in a list is one of it
stands : (q : List ℕ) (xs : List (List ℕ)) → 0 < times q xs → Contains xs q
stands q [] some = absurd (omega (arith, some))
stands q (x ∷ xs) some = by (stands q xs) (pointwise nat_eq q x) refl some
  where
    by : (0 < times q xs → Contains xs q) → (b : Bool) → pointwise nat_eq q x ≡ b → 0 < cond b 1 0 + times q xs → Contains (x ∷ xs) q
    by rest true is some = (0, omega arith, sym ((bytes_decides q x).0 is))
    by rest false is some = Contains-append_right (x ∷ []) xs q (rest (omega (arith, some)))

tail_sorted : (x : List ℕ) (xs : List (List ℕ)) → IsSorted (slice_cmp nat_cmp) (x ∷ xs) → IsSorted (slice_cmp nat_cmp) xs
tail_sorted x xs sorted k d low within = rw add-one (rw add-one at (sorted (suc k) d (omega arith) (omega (arith, within))))

-- no name is below the first one
none_below : (x : List ℕ) (xs : List (List ℕ)) (q : List ℕ) → IsSorted (slice_cmp nat_cmp) (x ∷ xs) → Contains (x ∷ xs) q → is_lt (slice_cmp nat_cmp q x) ≡ false
none_below x xs q sorted c =
    subst (λ (y : List ℕ). is_lt (slice_cmp nat_cmp y x) ≡ false) c.2
    (sorted_far (λ a b. is_lt (slice_cmp nat_cmp a b)) (ranks_by nat_list_cmp_total (λ (a : List ℕ). a)) (x ∷ xs) sorted 0 c.0 q (omega arith) c.1)

neither : (x y : List ℕ) → is_lt (slice_cmp nat_cmp x y) ≡ false → is_lt (slice_cmp nat_cmp y x) ≡ false → x ≡ y
neither x y a b = by (slice_cmp nat_cmp x y) refl
  where
    by : (o : Ordering) → slice_cmp nat_cmp x y ≡ o → x ≡ y
    by Less is = absurd (true≢false (sym (ap is_lt is) ∙ a))
    by Equal is = exact_bytes x y is
    by Greater is = absurd (true≢false (sym (ap is_lt (nat_list_cmp_total.antisymm y x ∙ ap ordering_reverse is)) ∙ b))

sorted_alike : (xs ys : List (List ℕ)) → IsSorted (slice_cmp nat_cmp) xs → IsSorted (slice_cmp nat_cmp) ys → AreAlike xs ys → xs ≡ ys
sorted_alike [] [] a b alike = refl
sorted_alike [] (y ∷ ys) a b alike = let e : 0 ≡ one_for y y + times y ys = alike y in absurd (omega (arith, e, once y))
sorted_alike (x ∷ xs) [] a b alike = let e : one_for x x + times x xs ≡ 0 = alike x in absurd (omega (arith, e, once x))
sorted_alike (x ∷ xs) (y ∷ ys) a b alike =
    let x_times : one_for x x + times x xs ≡ times x (y ∷ ys) = alike x in
    let y_times : times y (x ∷ xs) ≡ one_for y y + times y ys = alike y in
    let x_there : Contains (y ∷ ys) x = stands x (y ∷ ys) (omega (arith, x_times, once x)) in
    let y_there : Contains (x ∷ xs) y = stands y (x ∷ xs) (omega (arith, y_times, once y)) in
    let first : x ≡ y = neither x y (none_below y ys x b x_there) (none_below x xs y a y_there) in
    let rest : xs ≡ ys = sorted_alike xs ys (tail_sorted x xs a) (tail_sorted y ys b) (λ q. fewer q (one_for q x) (one_for q y) (times q xs) (times q ys) (ap (one_for q) first) (alike q)) in
    cc
  where
    fewer : (q : List ℕ) (a b m n : ℕ) → a ≡ b → a + m ≡ b + n → m ≡ n
    fewer q a b m n same all = omega arith

pub one_order : (a b : List ℕ) (x y : List (List ℕ)) → IsPermutation (names_listed a) (names_listed b) → ListsNames a x → ListsNames b y → x ≡ y
one_order a b x y same p q =
    let moved : IsPermutation x y = IsPermutation-trans _ _ _ (IsPermutation-sym _ _ p.same) (IsPermutation-trans _ _ _ same q.same) in
    sorted_alike x y p.rising q.rising (λ name. times_sum name x ∙ sym (sum_by-IsPermutation (one_for name) x y moved) ∙ sym (times_sum name y))

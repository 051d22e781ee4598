-- The names in a listing, one after the other.
use Rattle.std.proofs.Common.{◌≡◌, ◌∙◌, ℕ, ◌+◌, ◌<◌, true, false, cond, refl, sym, ap, List, [], ◌∷◌, ◌++◌, All, length, take, drop, get_or, map, Some, None, Bor, append_assoc, arith}
use Rattle.std.specs.List.{after_first, before_first, filter, position, slice_split}
use Rattle.std.specs.List.Sorted.{IsPermutation, IsSorted}
use Rattle.std.specs.Ordering.{nat_cmp}
use Rattle.std.specs.Cmp.Lexicographic.{slice_cmp}
use Rattle.std.proofs.lemmas.List.{get_or-map, length-map}
use Rattle.std.proofs.lemmas.List.Elements.{All-from_get_or}
use Rattle.std.proofs.lemmas.List.Sorted.{IsPermutation-map}
use Rattle.std.proofs.lemmas.List.Splits.{slice_split_first, slice_split_none}
use Rattle.std.proofs.lemmas.List.Sums.{fails_before_first}
use Rattle.nv_untar.proofs.Positions.{found_at, found_nowhere}
use Rattle.nv_host.specs.Names.{ListsNames, ends_name, is_name, names_listed}

-- ---- a listing cut at the end of its first name

first_name : (x : List ℕ) (xs : List (List ℕ)) → filter is_name (x ∷ xs) ≡ filter is_name (x ∷ []) ++ filter is_name xs
first_name x xs = elim (is_name x) as (λ b. cond b (x ∷ filter is_name xs) (filter is_name xs) ≡ cond b (x ∷ []) [] ++ filter is_name xs) [ true ↦ refl | false ↦ refl ]

names_cut : (listing : List ℕ) (i : ℕ) → position ends_name listing ≡ Some i → names_listed listing ≡ filter is_name (take i listing ∷ []) ++ names_listed (drop (i + 1) listing)
names_cut listing i at =
    let found = found_at ends_name listing i at in
    ap (filter is_name) (slice_split_first ends_name listing 0 found.1) ∙ first_name (before_first ends_name listing) (slice_split ends_name (after_first ends_name listing))
    ∙ ap (λ n. filter is_name (take n listing ∷ []) ++ names_listed (drop (n + 1) listing)) (sym found.0)

names_whole : (listing : List ℕ) → position ends_name listing ≡ None → names_listed listing ≡ filter is_name (listing ∷ [])
names_whole listing none =
    let len = found_nowhere ends_name listing none in
    let fails : All (λ b. ends_name b ≡ false) listing = All-from_get_or (λ b. ends_name b ≡ false) listing 0 (λ k inside. fails_before_first ends_name listing k 0 (omega (arith, len, inside))) in
    ap (filter is_name) (slice_split_none ends_name listing fails)

-- ---- what is pushed

pub pushed : (old new : List (List ℕ)) (left : List ℕ) (whole : List (List ℕ)) (i : ℕ) → position ends_name left ≡ Some i → new ≡ old ++ filter is_name (take i left ∷ [])
    → old ++ names_listed left ≡ whole → new ++ names_listed (drop (i + 1) left) ≡ whole
pushed old new left whole i at more all =
    ap (λ (t : List (List ℕ)). t ++ names_listed (drop (i + 1) left)) more ∙ append_assoc old (filter is_name (take i left ∷ [])) (names_listed (drop (i + 1) left))
    ∙ ap (λ (t : List (List ℕ)). old ++ t) (sym (names_cut left i at)) ∙ all

pub pushed_last : (old new : List (List ℕ)) (left : List ℕ) (whole : List (List ℕ)) → position ends_name left ≡ None → new ≡ old ++ filter is_name (left ∷ [])
    → old ++ names_listed left ≡ whole → new ≡ whole
pushed_last old new left whole none more all = more ∙ ap (λ (t : List (List ℕ)). old ++ t) (sym (names_whole left none)) ∙ all

-- ---- what is sorted

sorted_now : (vs : List (Bor (List ℕ))) → IsSorted (λ x y. slice_cmp nat_cmp x.now y.now) vs → IsSorted (slice_cmp nat_cmp) (map (λ v. v.now) vs)
sorted_now [] sorted k d low within = absurd (omega arith)
sorted_now (v ∷ vs) sorted k d low within = rw (name_of (k + 1) inside, name_of k (omega (arith, inside))) (sorted k v low inside)
  where
    inside : k + 1 < length (v ∷ vs)
    inside = rw length-map at within

    name_of : (i : ℕ) → i < length (v ∷ vs) → get_or (map (λ v. v.now) (v ∷ vs)) i d ≡ (get_or (v ∷ vs) i v).now
    name_of i below = get_or-map (λ (v : Bor (List ℕ)). v.now) (v ∷ vs) i v d below

pub lists_names : (listing : List ℕ) (us vs : List (Bor (List ℕ))) → map (λ v. v.now) us ≡ names_listed listing → IsPermutation us vs
    → IsSorted (λ x y. slice_cmp nat_cmp x.now y.now) vs → ListsNames listing (map (λ v. v.now) vs)
lists_names listing us vs names moved sorted = record {
  same = rw (← names) (IsPermutation-map (λ (v : Bor (List ℕ)). v.now) us vs moved);
  rising = sorted_now vs sorted;
}

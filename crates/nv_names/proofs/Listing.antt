-- The names of an index: each once, and in order.
use Rattle.std.proofs.Common.{Option, None, Box, ◌≡◌, ◌<◌, ◌+◌, ℕ, Bool, true, false, cond, nat_eq, List, [], ◌∷◌, map, length, get_or, Some, IsSome, is_some, refl, sym, ap, subst, ◌∙◌, arith}
use Rattle.std.specs.List.{IsDistinct, AllByRecursion, Contains}
use Rattle.std.specs.List.Sorted.{IsSorted, IsSortedByKey, IsStrictlySortedBy, IsPermutation}
use Rattle.std.specs.Ordering.{nat_cmp, is_lt, is_eq, ordering_reverse}
use Rattle.std.specs.declared.cmp.Ordering.{Ordering}
use Rattle.std.specs.declared.cmp.Ordering.TheVariants.{Less, Equal, Greater}
use Rattle.std.specs.declared.alloc.Global.{Global}
use Rattle.std.specs.Cmp.Lexicographic.{pointwise, slice_cmp, nat_list_eq_equiv, nat_list_cmp_total, texts_ties, bytes_decides}
use Rattle.std.proofs.lemmas.List.{length-map, get_or-map}
use Rattle.std.proofs.lemmas.List.Elements.{All-from_recursion, Contains-get_or, Contains-append_right}
use Rattle.std.proofs.lemmas.List.Sorted.{IsPermutation-map, All-permutation, Contains-permutation}
use Rattle.std.proofs.lemmas.Map.Keys.{IsDistinct-head, IsDistinct-tail, IsDistinct-IsPermutation, apart_from_distinct, sorted_from_all_adjacent}
use Rattle.std.proofs.lemmas.Bool.{true≢false}
use Rattle.std.proofs.lemmas.Option.{none-some}
use Rattle.nv_names.specs.declared.named.Named.{Named}
use Rattle.nv_names.specs.Names.{Names, found_in, names_of, EachOnce, HasNames, ListsNames, line_of}
use Rattle.nv_names.specs.Table.{names_held}

-- a list of no names finds none
pub found_in-empty : (es : List (List ℕ × ℕ × ℕ)) → length es ≡ 0 → (q : List ℕ) → found_in es q ≡ None
found_in-empty [] none q = refl
found_in-empty (e ∷ es) none q = absurd (omega (arith, none))

-- and a list that finds none has none
pub empty-found_in : (es : List (List ℕ × ℕ × ℕ)) → ((q : List ℕ) → found_in es q ≡ None) → length es ≡ 0
empty-found_in [] none = refl
empty-found_in (e ∷ es) none =
    let found : found_in (e ∷ es) e.0 ≡ Some (e.1, e.2) = ap (λ b. cond b (Some (e.1, e.2)) (found_in es e.0)) (nat_list_eq_equiv.refl e.0) in
    absurd (none-some _ (sym (none e.0) ∙ found))

-- names that do not fall and differ rise
rising : (ks : List (List ℕ)) → IsSorted (slice_cmp nat_cmp) ks → IsDistinct (pointwise nat_eq) ks → IsStrictlySortedBy (slice_cmp nat_cmp) ks
rising ks sorted distinct = sorted_from_all_adjacent nat_list_cmp_total ks [] (λ k within. less k within (slice_cmp nat_cmp (get_or ks k []) (get_or ks (k + 1) [])) refl)
  where
    less : (k : ℕ) → k + 1 < length ks → (r : Ordering) → slice_cmp nat_cmp (get_or ks k []) (get_or ks (k + 1) []) ≡ r → slice_cmp nat_cmp (get_or ks k []) (get_or ks (k + 1) []) ≡ Less
    less k within Less e = e
    less k within Equal e = absurd (true≢false (sym (texts_ties (get_or ks k []) (get_or ks (k + 1) []) ∙ ap is_eq e) ∙ apart_from_distinct (pointwise nat_eq) ks k (k + 1) [] distinct (omega arith) within))
    less k within Greater e = absurd (true≢false (sym (ap is_lt (nat_list_cmp_total.antisymm (get_or ks (k + 1) []) (get_or ks k []) ∙ ap ordering_reverse e)) ∙ sorted k [] (omega arith) within))

-- what holds of each entry and what holds of its name
AllByRecursion-zip : (P R : List ℕ × ℕ × ℕ → Type 0) (Q : List ℕ → Type 0) → ((e : List ℕ × ℕ × ℕ) → P e → Q e.0 → R e)
    → (es : List (List ℕ × ℕ × ℕ)) → AllByRecursion P es → AllByRecursion Q (names_of es) → AllByRecursion R es
AllByRecursion-zip P R Q join [] p q = tt
AllByRecursion-zip P R Q join (e ∷ es) p q = (join e p.0 q.0, AllByRecursion-zip P R Q join es p.1 q.1)

-- each name of a list without repeats is found with its inode and place
pub each_found : (es : List (List ℕ × ℕ × ℕ)) → IsDistinct (pointwise nat_eq) (names_of es) → AllByRecursion (λ e. found_in es e.0 ≡ Some (e.1, e.2)) es
each_found [] distinct = tt
each_found (x ∷ xs) distinct = (
  ap (λ b. cond b (Some (x.1, x.2)) (found_in xs x.0)) (nat_list_eq_equiv.refl x.0),
  AllByRecursion-zip _ _ (λ k. pointwise nat_eq x.0 k ≡ false) (λ e found other. ap (λ b. cond b (Some (x.1, x.2)) (found_in xs e.0)) (nat_list_eq_equiv.symm e.0 x.0 ∙ other) ∙ found)
      xs (each_found xs (IsDistinct-tail _ _ _ distinct)) (IsDistinct-head _ _ _ distinct),
)

-- a name that is found is in the list
found_contained : (es : List (List ℕ × ℕ × ℕ)) (q : List ℕ) → IsSome (found_in es q) → Contains (names_of es) q
found_contained [] q some = absurd (cc)
found_contained (e ∷ es) q some = decide (found_contained es q) (pointwise nat_eq q e.0) refl
  where
    decide : (IsSome (found_in es q) → Contains (names_of es) q) → (b : Bool) → pointwise nat_eq q e.0 ≡ b → Contains (names_of (e ∷ es)) q
    decide others true is = subst (λ k. Contains (e.0 ∷ names_of es) k) (sym ((bytes_decides q e.0).0 is)) (Contains-get_or (e.0 ∷ names_of es) 0 q (omega arith))
    decide others false is = Contains-append_right (e.0 ∷ []) (names_of es) q (others (subst (λ b. is_some (cond b (Some (e.1, e.2)) (found_in es q)) ≡ true) is some))

-- lines that ascend by their names
lines_sorted : (vs : List Named) → IsSortedByKey (λ n. n.name) (λ x y. slice_cmp nat_cmp x.now y.now) vs → IsSorted (slice_cmp nat_cmp) (names_of (map line_of vs))
lines_sorted [] sorted k d low within = absurd (omega arith)
lines_sorted (v ∷ vs) sorted k d low within = rw (name_of (k + 1) inside, name_of k (omega (arith, inside))) (sorted k v low inside)
  where
    inside : k + 1 < length (v ∷ vs)
    inside = rw (length-map, length-map) at within

    name_of : (i : ℕ) → i < length (v ∷ vs) → get_or (names_of (map line_of (v ∷ vs))) i d ≡ (get_or (v ∷ vs) i v).name.now
    name_of i below = get_or-map (λ e. e.0) (map line_of (v ∷ vs)) i (line_of v) d (rw length-map below) ∙ ap (λ e. e.0) (get_or-map line_of (v ∷ vs) i v (line_of v) below)

-- lines that are those of an index and ascend list its names
pub lists_names : (index : Names) (us vs : List Named) → EachOnce index → map line_of us ≡ index.names → IsPermutation us vs
    → IsSortedByKey (λ n. n.name) (λ x y. slice_cmp nat_cmp x.now y.now) vs → ListsNames index (map line_of vs)
lists_names index us vs distinct lines moved sorted = record {
  rising = rising _ (lines_sorted vs sorted) (IsDistinct-IsPermutation (pointwise nat_eq) nat_list_eq_equiv.symm _ _ renamed distinct);
  each = All-permutation (λ e. found_in index.names e.0 ≡ Some (e.1, e.2)) _ _ entries (All-from_recursion _ _ (each_found index.names distinct));
  all = λ q some. Contains-permutation _ _ q renamed (found_contained index.names q some);
}
  where
    entries : IsPermutation index.names (map line_of vs)
    entries = rw (← lines) (IsPermutation-map line_of us vs moved)

    renamed : IsPermutation (names_of index.names) (names_of (map line_of vs))
    renamed = IsPermutation-map (λ e. e.0) index.names (map line_of vs) entries

-- an index has its own names
pub has_own : (index : Names) → EachOnce index → HasNames index index.names
has_own index distinct = record {
  once = distinct;
  each = All-from_recursion _ _ (each_found index.names distinct);
  all = λ q some. found_contained index.names q some;
}

-- lines that are those of an index have its names
pub has_names : (index : Names) (us : List Named) → EachOnce index → map line_of us ≡ index.names → HasNames index (map line_of us)
has_names index us distinct lines = rw lines (has_own index distinct)

-- where there is no table, no name is there twice
pub held_once : (table : Option (Box Names Global)) → table ≡ None → EachOnce (names_held table)
unfolding IsDistinct
held_once table none = subst (λ t. EachOnce (names_held t)) (sym none) tt

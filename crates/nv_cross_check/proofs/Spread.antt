-- Marking what is named, one after another.
use Rattle.std.proofs.Common.{◌≡◌, ◌≢◌, ℕ, ◌+◌, ◌<◌, ◌≤◌, ◌⊎◌, inl, inr, Bool, true, false, not, cond, Option, Some, None, List, [], ◌∷◌, ◌++◌, length, get_or, map, take, refl, ap, sym, ◌∙◌, subst, arith, get_or-set_same, get_or-set_other, add-zero}
use Rattle.std.proofs.Math.ListN.{set, length-set}
use Rattle.std.specs.List.{Contains}
use Rattle.std.proofs.lemmas.List.Sums.{sum_by-set}
use Rattle.std.proofs.lemmas.List.{length-append, get_or_default}
use Rattle.std.proofs.lemmas.List.Elements.{Contains-append_left, Contains-append_right, Contains-append_cases, Contains-push, Contains-push_cases}
use Rattle.nv_super.proofs.Rising.{Contains-cons, Contains-head}
use Rattle.std.proofs.lemmas.List.{map_more}
use Rattle.std.proofs.lemmas.Option.{same_Some}
use Rattle.nv_super.proofs.Members.{none_in}
use Rattle.nv_names.specs.declared.named.Named.{Named}
use Rattle.nv_cross_check.specs.Listing.{Listing}
use Rattle.nv_cross_check.specs.Listings.{target}
use Rattle.nv_cross_check.specs.Steps.{place_of, IsMarked, unmarked, IsNameless, Spreads}
use Rattle.nv_cross_check.proofs.PlaceTable.{none_some, equal_or}

pub spread_more : (listings : List Listing) (table : List (Option ℕ)) (a b : List ℕ) (m n o : List Bool) (s t u : List ℕ) → Spreads listings table a m s n t → Spreads listings table b n t o u → Spreads listings table (a ++ b) m s o u
spread_more listings table a b m n o s t u p q = record {
  same = q.same ∙ p.same;
  kept = λ k h. q.kept k (p.kept k h);
  from = λ k h. elim (q.from k h) [
    | inl w ↦ elim (p.from k w) [ inl v ↦ inl v | inr v ↦ inr (still k v.0, v.1, Contains-append_left a b _ v.2, v.3) ]
    | inr w ↦ inr (w.0, w.1, Contains-append_right a b _ w.2, w.3)
  ];
  all = λ i k c e. elim (Contains-append_cases a b i c) [ inl w ↦ q.kept k (p.all i k w e) | inr w ↦ q.all i k w e ];
  todo_kept = λ k c. q.todo_kept k (p.todo_kept k c);
  todo_from = λ k c. elim (q.todo_from k c) [
    | inl w ↦ elim (p.todo_from k w) [ inl v ↦ inl v | inr v ↦ inr (q.kept k v.0, v.1) ]
    | inr w ↦ inr (w.0, (let e = p.same in let lt = w.1 in omega (arith, e, lt)))
  ];
  work = (let v = p.work in let w = q.work in omega (arith, v, w));
} where
  still : (k : ℕ) → Contains t k ⊎ IsNameless listings k → Contains u k ⊎ IsNameless listings k
  still k c = elim c [ inl w ↦ inl (q.todo_kept k w) | inr w ↦ inr w ]

only_one : (x y : ℕ) → Contains (x ∷ []) y → y ≡ x
only_one x y c = elim (Contains-cons x [] y c) [ inl w ↦ w | inr w ↦ absurd (none_in y w) ]

-- the one place of what is named alone
one_place : (table : List (Option ℕ)) (i place j k : ℕ) → place_of table i ≡ Some place → Contains (i ∷ []) j → place_of table j ≡ Some k → place ≡ k
one_place table i place j k at c e = same_Some place k (sym at ∙ sym (ap (place_of table) (only_one i j c)) ∙ e)

pub spread_old : (listings : List Listing) (table : List (Option ℕ)) (marks : List Bool) (todo : List ℕ) (i place : ℕ) → place_of table i ≡ Some place → IsMarked marks place → Spreads listings table (i ∷ []) marks todo marks todo
spread_old listings table marks todo i place at h = record {
  same = refl;
  kept = λ k h. h;
  from = λ k h. inl h;
  all = λ j k c e. (let P : ℕ → Type 0 = λ p. IsMarked marks p in subst P (one_place table i place j k at c e) h);
  todo_kept = λ k c. c;
  todo_from = λ k c. inl c;
  work = omega arith;
}

pub spread_none : (listings : List Listing) (table : List (Option ℕ)) (marks : List Bool) (todo : List ℕ) (i : ℕ) → place_of table i ≡ None → Spreads listings table (i ∷ []) marks todo marks todo
spread_none listings table marks todo i none = record {
  same = refl;
  kept = λ k h. h;
  from = λ k h. inl h;
  all = λ j k c e. none_some k (sym none ∙ sym (ap (place_of table) (only_one i j c)) ∙ e);
  todo_kept = λ k c. c;
  todo_from = λ k c. inl c;
  work = omega arith;
}

pub spread_step : (listings : List Listing) (table : List (Option ℕ)) (names : List Named) (i : ℕ) (d : Named) (m n o : List Bool) (s t u : List ℕ) → i < length names → Spreads listings table (map target (take i names)) m s n t → Spreads listings table (target (get_or names i d) ∷ []) n t o u
    → Spreads listings table (map target (take (i + 1) names)) m s o u
spread_step listings table names i d m n o s t u lt p q = let P : List ℕ → Type 0 = λ ts. Spreads listings table ts m s o u in subst P (sym (map_more target names i d lt)) (spread_more listings table _ _ m n o s t u p q)

-- a mark that is set
pub marked_at : (marks : List Bool) (place : ℕ) → place < length marks → IsMarked (set marks place true) place
marked_at marks place lt = rw get_or-set_same refl

pub marked_else : (marks : List Bool) (place k : ℕ) → k ≢ place → get_or (set marks place true) k false ≡ get_or marks k false
marked_else marks place k ne = rw get_or-set_other refl

fewer : (marks : List Bool) (place : ℕ) → place < length marks → get_or marks place false ≡ false → unmarked (set marks place true) + 1 ≡ unmarked marks
fewer marks place lt e = let s = sum_by-set (λ (b : Bool). cond (not b) 1 0) marks place true false lt in let t = rw e at s in t ∙ add-zero (unmarked marks)

-- An unmarked place is marked. It is opened, or has no names to follow.
module _ (listings : List Listing) (table : List (Option ℕ)) (marks : List Bool) (i place : ℕ) (at : place_of table i ≡ Some place) (lt : place < length marks) (off : get_or marks place false ≡ false) where
  here : IsMarked (set marks place true) place
  here = marked_at marks place lt

  spread_by : (todo todo' : List ℕ) → ((k : ℕ) → Contains todo k → Contains todo' k) → ((k : ℕ) → Contains todo' k → Contains todo k ⊎ (k ≡ place)) → Contains todo' place ⊎ IsNameless listings place → length todo' ≤ length todo + 1
      → Spreads listings table (i ∷ []) marks todo (set marks place true) todo'
  spread_by todo todo' more only opened few = record {
    same = length-set marks place true;
    kept = λ k h. equal_or k place (λ w. (let P : ℕ → Type 0 = λ j. IsMarked (set marks place true) j in subst P (sym w) here)) (λ ne. marked_else marks place k ne ∙ h);
    from = λ k h. equal_or k place
        (λ w. inr ((let P : ℕ → Type 0 = λ j. Contains todo' j ⊎ IsNameless listings j in subst P (sym w) opened), i, Contains-head i [], at ∙ ap Some (sym w)))
        (λ ne. inl (sym (marked_else marks place k ne) ∙ h));
    all = λ j k c e. (let P : ℕ → Type 0 = λ p. IsMarked (set marks place true) p in subst P (one_place table i place j k at c e) here);
    todo_kept = more;
    todo_from = λ k c. elim (only k c) [
      | inl w ↦ inl w
      | inr w ↦ inr ((let P : ℕ → Type 0 = λ j. IsMarked (set marks place true) j in subst P (sym w) here), (let P : ℕ → Type 0 = λ j. j < length marks in subst P (sym w) lt))
    ];
    work = (let f = fewer marks place lt off in omega (arith, few, f));
  }

  -- the place is opened
  pub spread_opened : (todo : List ℕ) → Spreads listings table (i ∷ []) marks todo (set marks place true) (todo ++ place ∷ [])
  spread_opened todo = spread_by todo (todo ++ place ∷ []) (λ k c. Contains-append_left todo (place ∷ []) k c)
      (λ k c. elim (Contains-push_cases todo place k c) [ inl w ↦ inl w | inr w ↦ inr (sym w) ])
      (inl (Contains-push todo place)) (let n = length-append todo (place ∷ []) in omega (arith, n))

  -- the place has no names to follow
  pub spread_nameless : (todo : List ℕ) → IsNameless listings place → Spreads listings table (i ∷ []) marks todo (set marks place true) todo
  spread_nameless todo none = spread_by todo todo (λ k c. c) (λ k c. inl c) (inr none) (omega arith)

pub read_at : {A : Type 0} (xs : List A) (i : ℕ) (r b d : A) → i < length xs → r ≡ get_or xs i r → r ≡ b → get_or xs i d ≡ b
read_at xs i r b d lt is e = get_or_default xs i d r lt ∙ sym is ∙ e

-- Counting what is named, one after another.
use Rattle.std.proofs.Common.{◌≡◌, ◌≢◌, ℕ, ◌+◌, ◌<◌, eqb, Bool, true, false, cond, List, [], ◌∷◌, ◌++◌, length, get_or, take, map, refl, ap, sym, ◌∙◌, arith, eq-eqb, get_or-set_same, get_or-set_other, Option, Some, None, append-nil}
use Rattle.std.proofs.Math.ListN.{set, length-set}
use Rattle.std.specs.List.{count_by, filter_map, flat_map, cons_option}
use Rattle.std.proofs.lemmas.Grind.{flat_map-append}
use Rattle.std.proofs.lemmas.List.Elements.{filter_map-append}
use Rattle.std.proofs.lemmas.List.Sums.{sum_by_push}
use Rattle.std.proofs.lemmas.List.{take_more, append_assoc, map-append}
use Rattle.std.proofs.lemmas.Bool.{ne_eqb}
use Rattle.std.proofs.lemmas.Option.{same_Some}
use Rattle.nv_cross_check.specs.Steps.{place_of, IsTable, AreCounts}
use Rattle.nv_cross_check.proofs.PlaceTable.{none_some, equal_or}

module _ (n : ℕ) (table : List (Option ℕ)) (seen counts : List ℕ) (t : ℕ) (h : AreCounts n table seen counts) where
  one_more : (j : ℕ) (b : Bool) → eqb t j ≡ b → count_by (λ s. eqb s j) (seen ++ t ∷ []) ≡ count_by (λ s. eqb s j) seen + cond b 1 0
  one_more j b e = sum_by_push (λ s. cond (eqb s j) 1 0) seen t ∙ ap (λ (x : Bool). count_by (λ s. eqb s j) seen + cond x 1 0) e

  others : (j : ℕ) → t ≢ j → count_by (λ s. eqb s j) seen ≡ count_by (λ s. eqb s j) (seen ++ t ∷ [])
  others j ne = let e = one_more j false (ne_eqb t j ne) in omega (arith, e)

  pub counts_skip : place_of table t ≡ None → AreCounts n table (seen ++ t ∷ []) counts
  counts_skip none = record {
    same = h.same;
    each = λ j k e. h.each j k e ∙ others j (λ q. none_some k (sym none ∙ ap (place_of table) q ∙ e));
  }

  pub counts_add : (place : ℕ) → IsTable n table → place_of table t ≡ Some place → AreCounts n table (seen ++ t ∷ []) (set counts place (get_or counts place 0 + 1))
  counts_add place w at = record {
    same = length-set counts place (get_or counts place 0 + 1) ∙ h.same;
    each = λ j k e. equal_or k place (λ q. here j k e q) (λ ne. there j k e ne);
  } where
    within : place < length counts
    within = let s = h.same in let l = w.within t place at in omega (arith, s, l)

    stored : (m : ℕ) → get_or (set counts place m) place 0 ≡ m
    stored m = let l : place < length counts = within in rw get_or-set_same refl

    here : (j k : ℕ) → place_of table j ≡ Some k → k ≡ place → get_or (set counts place (get_or counts place 0 + 1)) k 0 ≡ count_by (λ s. eqb s j) (seen ++ t ∷ [])
    here j k e q =
        let same : j ≡ t = w.once j t place (e ∙ ap Some q) at in
        ap (λ p. get_or (set counts place (get_or counts place 0 + 1)) p 0) q ∙ stored (get_or counts place 0 + 1) ∙ ap (λ m. m + 1) (h.each j place (e ∙ ap Some q)) ∙ sym (one_more j true (eq-eqb t j (sym same)))

    kept : (k m : ℕ) → k ≢ place → get_or (set counts place m) k 0 ≡ get_or counts k 0
    kept k m ne = rw get_or-set_other refl

    there : (j k : ℕ) → place_of table j ≡ Some k → k ≢ place → get_or (set counts place (get_or counts place 0 + 1)) k 0 ≡ count_by (λ s. eqb s j) (seen ++ t ∷ [])
    there j k e ne = kept k (get_or counts place 0 + 1) ne ∙ h.each j k e ∙ others j (λ q. ne (same_Some k place (sym e ∙ ap (place_of table) (sym q) ∙ at)))

pub filter_step : {A B : Type 0} (f : A → Option B) (xs : List A) (i : ℕ) (r : A) → i < length xs → r ≡ get_or xs i r → filter_map f (take (i + 1) xs) ≡ filter_map f (take i xs) ++ cons_option (f r) []
filter_step {A} {B} f xs i r lt is = ap (filter_map f) (take_more xs i r lt) ∙ filter_map-append f (take i xs) (get_or xs i r ∷ []) ∙ ap (λ (x : A). filter_map f (take i xs) ++ cons_option (f x) []) (sym is)

pub skips : {A B : Type 0} (f : A → Option B) (xs : List A) (i : ℕ) (r : A) (old now new : List B) → i < length xs → r ≡ get_or xs i r → f r ≡ None → new ≡ now → now ≡ old ++ filter_map f (take i xs) → new ≡ old ++ filter_map f (take (i + 1) xs)
skips {A} {B} f xs i r old now new lt is none e h =
    e ∙ h ∙ ap (λ (ys : List B). old ++ ys) (sym (filter_step f xs i r lt is ∙ ap (λ (o : Option B). filter_map f (take i xs) ++ cons_option o []) none ∙ append-nil (filter_map f (take i xs))))

pub takes : {A B : Type 0} (f : A → Option B) (xs : List A) (i : ℕ) (r : A) (b : B) (old now new : List B) → i < length xs → r ≡ get_or xs i r → f r ≡ Some b → new ≡ now ++ b ∷ [] → now ≡ old ++ filter_map f (take i xs) → new ≡ old ++ filter_map f (take (i + 1) xs)
takes {A} {B} f xs i r b old now new lt is some e h =
    e ∙ ap (λ (ys : List B). ys ++ b ∷ []) h ∙ append_assoc old (filter_map f (take i xs)) (b ∷ [])
    ∙ ap (λ (ys : List B). old ++ ys) (sym (filter_step f xs i r lt is ∙ ap (λ (o : Option B). filter_map f (take i xs) ++ cons_option o []) some))

-- one element more of a map
pub maps : {A B : Type 0} (f : A → B) (xs : List A) (i : ℕ) (d : A) (old now new : List B) → i < length xs → new ≡ now ++ f (get_or xs i d) ∷ [] → now ≡ old ++ map f (take i xs) → new ≡ old ++ map f (take (i + 1) xs)
maps {A} {B} f xs i d old now new lt e h =
    e ∙ ap (λ (ys : List B). ys ++ f (get_or xs i d) ∷ []) h ∙ append_assoc old (map f (take i xs)) (f (get_or xs i d) ∷ [])
    ∙ ap (λ (ys : List B). old ++ ys) (sym (ap (map f) (take_more xs i d lt) ∙ map-append f (take i xs) (get_or xs i d ∷ [])))

-- one element more of a copy
pub copies : {A : Type 0} (xs : List A) (i : ℕ) (d : A) (old now new : List A) → i < length xs → new ≡ now ++ get_or xs i d ∷ [] → now ≡ old ++ take i xs → new ≡ old ++ take (i + 1) xs
copies {A} xs i d old now new lt e h =
    e ∙ ap (λ (ys : List A). ys ++ get_or xs i d ∷ []) h ∙ append_assoc old (take i xs) (get_or xs i d ∷ []) ∙ ap (λ (ys : List A). old ++ ys) (sym (take_more xs i d lt))

-- one more list behind the others
pub flats : {A B : Type 0} (f : A → List B) (xs : List A) (i : ℕ) (r : A) (old now new : List B) → i < length xs → r ≡ get_or xs i r → new ≡ now ++ f r → now ≡ old ++ flat_map f (take i xs) → new ≡ old ++ flat_map f (take (i + 1) xs)
flats {A} {B} f xs i r old now new lt is e h =
    e ∙ ap (λ (ys : List B). ys ++ f r) h ∙ append_assoc old (flat_map f (take i xs)) (f r)
    ∙ ap (λ (ys : List B). old ++ ys) (sym (ap (flat_map f) (take_more xs i r lt) ∙ flat_map-append f (take i xs) (get_or xs i r ∷ [])
    ∙ ap (λ (ys : List B). flat_map f (take i xs) ++ ys) (append-nil (f (get_or xs i r)) ∙ ap f (sym is))))

-- How the sums by class grow with the classes that were gone over.
use Rattle.std.proofs.Common.{◌≡◌, ◌<◌, ◌≤◌, ◌+◌, ℕ, Bool, true, false, List, [], ◌∷◌, ◌++◌, ◌∙◌, cond, map, take, length, get_or, sym, ap, append-nil, arith}
use Rattle.std.specs.List.{filter}
use Rattle.std.specs.Prelude.{nat_lt, count_by, bytes_eq}
use Rattle.std.proofs.Math.Seq.{take-length}
use Rattle.std.proofs.lemmas.Bool.Decides.{nat_tests}
use Rattle.std.proofs.lemmas.List.{get_or-map, length-map, map-append}
use Rattle.std.proofs.lemmas.List.Elements.{filter_more}
use Rattle.nv_super.specs.declared.faults.Fault.{Fault}
use Rattle.nv_report.specs.declared.summary.ClassSum.{ClassSum}
use Rattle.nv_super.specs.Classes.{class_of}
use Rattle.nv_report.specs.Summary.{class_and_count, class_sum, is_some_sum}

module _ (faults : List Fault) (names : List (List ℕ)) where
  -- the sums of the first so many classes
  abbrev sums_of : ℕ → List (List ℕ × ℕ)
  sums_of i = filter is_some_sum (take i (map (class_sum faults) names))

  more : (i : ℕ) → i < length names → sums_of (i + 1) ≡ sums_of i ++ cond (is_some_sum (class_sum faults (get_or names i []))) (class_sum faults (get_or names i []) ∷ []) []
  more i below =
      let f = class_sum faults in
      let short : i < length (map f names) = rw length-map below in
      let here : get_or (map f names) i (f []) ≡ f (get_or names i []) = get_or-map f names i [] (f []) below in
      rw here at (filter_more is_some_sum (map f names) i (f []) short)

  module _ (i : ℕ) (below : i < length names) (class : List ℕ) (count : ℕ) (named : class ≡ get_or names i []) (counted : count ≡ count_by (λ fault. bytes_eq (class_of fault) class) faults) where
    here : (class, count) ≡ class_sum faults (get_or names i [])
    here = rw (← named) (ap (λ n. (class, n)) counted)

    test : (b : Bool) → nat_lt 0 count ≡ b → is_some_sum (class_sum faults (get_or names i [])) ≡ b
    test b e = ap is_some_sum (sym here) ∙ e

    pub one_more : (sums then : List ClassSum) → map class_and_count sums ≡ sums_of i → (x : ClassSum) → then ≡ sums ++ x ∷ [] → class_and_count x ≡ (class, count) → 0 < count → map class_and_count then ≡ sums_of (i + 1)
    one_more sums then so_far x is new some =
        let yes : is_some_sum (class_sum faults (get_or names i [])) ≡ true = test true (grind (arith, nat_tests, some)) in
        let grown = rw yes at (more i below) in
        ap (map class_and_count) is ∙ map-append class_and_count sums (x ∷ []) ∙ (let e = new ∙ here in cc)

    pub none_more : (sums : List ClassSum) → map class_and_count sums ≡ sums_of i → count ≤ 0 → map class_and_count sums ≡ sums_of (i + 1)
    none_more sums so_far none =
        let no : is_some_sum (class_sum faults (get_or names i [])) ≡ false = test false (grind (arith, nat_tests, none)) in
        so_far ∙ sym (append-nil (sums_of i)) ∙ sym (rw no at (more i below))

  pub all_summed : (i : ℕ) → i ≡ length names → sums_of i ≡ filter is_some_sum (map (class_sum faults) names)
  all_summed i is =
      let whole : take i (map (class_sum faults) names) ≡ map (class_sum faults) names = rw (is, ← length-map names (class_sum faults)) (take-length (map (class_sum faults) names)) in
      ap (filter is_some_sum) whole

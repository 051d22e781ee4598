-- Counting the names of rows, one row after another.
use Rattle.std.proofs.Common.{◌≡◌, ℕ, ◌+◌, ◌<◌, ◌≤◌, List, [], ◌∷◌, ◌++◌, length, get_or, take, map, refl, ap, sym, ◌∙◌, subst, Option, Some, None}
use Rattle.std.proofs.Math.ListN.{set}
use Rattle.std.specs.List.{filter_map}
use Rattle.std.specs.Prelude.{is_some, if◌then◌else◌}
use Rattle.std.proofs.lemmas.List.{get_or_default, take_all}
use Rattle.nv_super.specs.declared.faults.Fault.{Fault}
use Rattle.nv_super.specs.declared.faults.Fault.TheVariants as faults
use Rattle.nv_names.specs.declared.named.Named.{Named}
use Rattle.nv_cross_check.specs.Listing.{Listing}
use Rattle.nv_cross_check.specs.Listings.{inodes_of, target, targets}
use Rattle.nv_cross_check.specs.Steps.{place_of, IsAt, HasNamesAt, IsTable, AreCounts, CountsMore, unused_fault, unused_of}
use Rattle.nv_cross_check.proofs.Follow.{inode_at, same_row}
use Rattle.nv_cross_check.proofs.Counting.{counts_skip, counts_add, maps, flats, skips, takes}

module _ (listings : List Listing) (table : List (Option ℕ)) (counts : List ℕ) (i : ℕ) (l : Listing) (lt : i < length listings) (is : l ≡ get_or listings i l)
    (h : AreCounts (length listings) table (targets (take i listings)) counts) where
  so_far : AreCounts (length counts) table (targets (take i listings)) counts
  so_far = subst (λ (n : ℕ). AreCounts n table (targets (take i listings)) counts) (sym h.same) h

  pub row_counted : (new : List ℕ) → CountsMore table (map target l.names) counts new → AreCounts (length listings) table (targets (take (i + 1) listings)) new
  row_counted new more =
      let all : targets (take i listings) ++ map target l.names ≡ targets (take (i + 1) listings) =
      flats (λ (x : Listing). map target x.names) listings i l [] (targets (take i listings)) (targets (take i listings) ++ map target l.names) lt is refl refl in
      subst (λ (ts : List ℕ). AreCounts (length listings) table ts new) all
      (subst (λ (n : ℕ). AreCounts n table (targets (take i listings) ++ map target l.names) new) h.same (more (targets (take i listings)) so_far))

module _ (table : List (Option ℕ)) (names : List Named) (i : ℕ) (d : Named) (lt : i < length names) (old counts : List ℕ) (h : CountsMore table (map target (take i names)) old counts) where
  one_named : (before : List ℕ) → (before ++ map target (take i names)) ++ target (get_or names i d) ∷ [] ≡ before ++ map target (take (i + 1) names)
  one_named before = maps target names i d before (before ++ map target (take i names)) ((before ++ map target (take i names)) ++ target (get_or names i d) ∷ []) lt refl refl

  pub name_counted : (place : ℕ) → IsTable (length old) table → place_of table (target (get_or names i d)) ≡ Some place → CountsMore table (map target (take (i + 1) names)) old (set counts place (get_or counts place 0 + 1))
  name_counted place w at before b =
      subst (λ (ts : List ℕ). AreCounts (length old) table ts (set counts place (get_or counts place 0 + 1))) (one_named before) (counts_add _ _ _ _ (target (get_or names i d)) (h before b) place w at)

  pub name_skipped : place_of table (target (get_or names i d)) ≡ None → CountsMore table (map target (take (i + 1) names)) old counts
  name_skipped none before b =
      subst (λ (ts : List ℕ). AreCounts (length old) table ts counts) (one_named before) (counts_skip _ _ _ _ (target (get_or names i d)) (h before b) none)

module _ (table : List (Option ℕ)) (directory : ℕ) (names : List Named) (i : ℕ) (d : Named) (lt : i < length names) (old now new : List Fault) (h : now ≡ old ++ filter_map (unused_fault table directory) (take i names)) where
  abbrev fault_by : Option ℕ → Option Fault
  fault_by o = if is_some o then None else Some (faults.C1 directory (get_or names i d).place)

  is_itself : get_or names i d ≡ get_or names i (get_or names i d)
  is_itself = get_or_default names i d (get_or names i d) lt

  pub used_passed : (place : ℕ) → place_of table (target (get_or names i d)) ≡ Some place → new ≡ now → new ≡ old ++ filter_map (unused_fault table directory) (take (i + 1) names)
  used_passed place at e = skips (unused_fault table directory) names i (get_or names i d) old now new lt is_itself (ap fault_by at) e h

  pub unused_told : place_of table (target (get_or names i d)) ≡ None → new ≡ now ++ faults.C1 directory (get_or names i d).place ∷ [] → new ≡ old ++ filter_map (unused_fault table directory) (take (i + 1) names)
  unused_told none e = takes (unused_fault table directory) names i (get_or names i d) (faults.C1 directory (get_or names i d).place) old now new lt is_itself (ap fault_by none) e h

-- Once all names of the row at a place were looked at, the names are the row's.
module _ (listings : List Listing) (place : ℕ) (l : Listing) (names : List Named) (i : ℕ) (at : IsAt listings place l) (here : HasNamesAt listings place names) (past : length names ≤ i) where
  all_names : take i names ≡ l.names
  all_names = take_all i names past ∙ here.2 ∙ ap (λ (z : Listing). z.names) (same_row listings place here.0 l here.1 at)

  pub all_counted : (table : List (Option ℕ)) (old now : List ℕ) → CountsMore table (map target (take i names)) old now → CountsMore table (map target l.names) old now
  all_counted table old now h = subst (λ (ns : List Named). CountsMore table (map target ns) old now) all_names h

  pub all_told : (table : List (Option ℕ)) (old now : List Fault) → now ≡ old ++ filter_map (unused_fault table (get_or (inodes_of listings) place 0)) (take i names) → now ≡ old ++ unused_of table l
  all_told table old now h = h ∙ (λ j. old ++ filter_map (unused_fault table (inode_at listings place l at j)) (all_names j))

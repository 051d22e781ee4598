-- Rows in another order have the same faults between them.
use Rattle.std.proofs.Common.{ℕ, List, ◌∷◌}
use Rattle.std.specs.List.{Contains}
use Rattle.std.specs.List.Sorted.{IsPermutation}
use Rattle.std.proofs.lemmas.List.Sorted.{Contains-permutation, IsPermutation-sym}
use Rattle.nv_super.specs.Order.{fault_key, Lists}
use Rattle.nv_super.specs.declared.faults.Fault.{Fault}
use Rattle.nv_super.proofs.Rising.{Lists-same}
use Rattle.nv_scan.specs.declared.piece.Row.{Row}
use Rattle.nv_cross_check.specs.Cross.{HasNameIn, AreNamesIn, IsReachedIn, root, step, IsCrossFaultIn, c1, c2, c2_root, c3, c4, c5}

-- each row of the first list stands in the second
abbrev Within : List Row → List Row → Type 0
Within xs ys = (r : Row) → Contains xs r → Contains ys r

has_name : (xs ys : List Row) {d i at : ℕ} {name : List ℕ} → Within xs ys → HasNameIn xs d name i at → HasNameIn ys d name i at
has_name xs ys within h = (h.0, within h.0 h.1, h.2, h.3)

reached : (xs ys : List Row) {i : ℕ} → Within xs ys → IsReachedIn xs i → IsReachedIn ys i
reached xs ys within (root r c one dir) = root r (within r c) one dir
reached xs ys within (step name at r before h c same) = step name at r (reached xs ys within before) (has_name xs ys within h) (within r c) same

module _ (xs ys : List Row) (there : Within xs ys) (back : Within ys xs) where
  names_are : (i : ℕ) (names : List (ℕ × List ℕ)) → AreNamesIn xs i names → AreNamesIn ys i names
  names_are i names are = Lists-same (λ (x : ℕ × List ℕ). x.0 ∷ x.1) _ _ names (λ x w. (w.0, has_name xs ys there w.1)) (λ x w. (w.0, has_name ys xs back w.1)) are

  cross_fault : (f : Fault) → IsCrossFaultIn xs f → IsCrossFaultIn ys f
  cross_fault _ (c1 name i h none) = c1 name i (has_name xs ys there h) (λ r c same. none r (back r c) same)
  cross_fault _ (c2 r names c dir other are count) = c2 r names (there r c) dir other (names_are r.inode names are) count
  cross_fault _ (c2_root r names c dir one are some) = c2_root r names (there r c) dir one (names_are 1 names are) some
  cross_fault _ (c3 r names c file are links) = c3 r names (there r c) file (names_are r.inode names are) links
  cross_fault _ (c4 r c far) = c4 r (there r c) (λ h. far (reached ys xs back h))
  cross_fault _ (c5 none) = c5 (λ r c one dir. none r (back r c) one dir)

pub same_cross : (xs ys : List Row) (found : List Fault) → IsPermutation xs ys → Lists fault_key (IsCrossFaultIn ys) found → Lists fault_key (IsCrossFaultIn xs) found
same_cross xs ys found moved are = Lists-same fault_key (IsCrossFaultIn ys) (IsCrossFaultIn xs) found (cross_fault ys xs back there) (cross_fault xs ys there back) are where
  there : Within xs ys
  there r c = Contains-permutation xs ys r moved c

  back : Within ys xs
  back r c = Contains-permutation ys xs r (IsPermutation-sym xs ys moved) c

-- Why `replace` is refused.
use Rattle.std.proofs.Common.{◌≡◌, ℕ, Bool, true, false, is_none, [], ◌∷◌, ◌++◌, append_assoc, ap, sym, ◌∙◌, Option, Some, None, Result, Ok, Err}
use Rattle.nv_tree.specs.declared.refusal.Refusal.{Refusal}
use Rattle.nv_tree.specs.declared.refusal.Refusal.TheVariants.{IntoItself, IsDirectory, NotDirectory, NotEmpty, NotFound, Stopped}
use Rattle.nv_tree.specs.Tree.{Tree, found, walk}
use Rattle.nv_tree.specs.Refusals.{Path, Tests, World, first_refusal, has_no_space, is_bad_name, is_into_itself, is_missing, refused_walk, walk_tests, writing}
use Rattle.nv_tree.specs.Replace.{is_over_directory, is_over_file, is_over_names, replace_tests}
use Rattle.nv_paths.specs.ReplaceSpots.{replace_spot_tests}
use Rattle.nv_paths.proofs.Refusing.{passed_before, refused_before, walk_goes_on}

abbrev last_tests : Tree → Path → Path → Tests
last_tests t p q = is_missing t p ∷ is_into_itself t p q ∷ is_over_directory t p q ∷ is_over_file t p q ∷ is_over_names t p q ∷ []

abbrev front_tests : Tree → Path → Path → Tests
front_tests t p q = is_bad_name p ∷ is_bad_name q ∷ walk_tests t p ++ walk_tests t q

spot_first : (t : Tree) (p q : Path) (more : Tests) → front_tests t p q ++ (last_tests t p q ++ more) ≡ replace_spot_tests t p q ++ more
spot_first t p q more = sym (append_assoc (front_tests t p q) (last_tests t p q) more)

module _ (w : World) (t : Tree) (cpu : ℕ) (passed : (tests : Tests) → first_refusal (writing w cpu tests) ≡ first_refusal tests) (p q : Path) (needed : ℕ) where
  all_tests : first_refusal (replace_tests w t cpu p q needed) ≡ first_refusal (replace_spot_tests t p q ++ has_no_space w needed ∷ [])
  all_tests = passed (front_tests t p q ++ (last_tests t p q ++ has_no_space w needed ∷ [])) ∙ ap first_refusal (spot_first t p q (has_no_space w needed ∷ []))

  pub replace_refuses : (e : Refusal) → first_refusal (replace_spot_tests t p q) ≡ Some e → first_refusal (replace_tests w t cpu p q needed) ≡ Some e
  replace_refuses e h = all_tests ∙ refused_before (replace_spot_tests t p q) (has_no_space w needed ∷ []) e h

  pub replace_allows : first_refusal (replace_spot_tests t p q) ≡ None → first_refusal (replace_tests w t cpu p q needed) ≡ first_refusal (has_no_space w needed ∷ [])
  replace_allows h = all_tests ∙ passed_before (replace_spot_tests t p q) (has_no_space w needed ∷ []) h

-- ---- no test answers `Stopped`

-- the refusal of the tests, by what they find
abbrev replace_told : Result ℕ Refusal → Result ℕ Refusal → Bool → Bool → Bool → Bool → Bool → Option Refusal
replace_told w v missing into directory file names = first_refusal (refused_walk w ++ refused_walk v ++ (missing, NotFound) ∷ (into, IntoItself) ∷ (directory, IsDirectory) ∷ (file, NotDirectory) ∷ (names, NotEmpty) ∷ [])

pub replace_goes_on : (t : Tree) (p q : Path) → first_refusal (replace_spot_tests t p q) ≡ Some Stopped → ⊥
replace_goes_on t None q e = absurd (cc)
replace_goes_on t (Some []) q e = absurd (cc)
replace_goes_on t (Some (name ∷ names)) None e = absurd (cc)
replace_goes_on t (Some (name ∷ names)) (Some []) e = absurd (cc)
replace_goes_on t (Some (name ∷ names)) (Some (other ∷ others)) e =
    by (walk t 1 (name ∷ names)) (walk_goes_on t 1 (name ∷ names)) (walk t 1 (other ∷ others)) (walk_goes_on t 1 (other ∷ others)) (is_none (found t (name ∷ names))) (is_into_itself t (Some (name ∷ names)) (Some (other ∷ others))).0
    (is_over_directory t (Some (name ∷ names)) (Some (other ∷ others))).0 (is_over_file t (Some (name ∷ names)) (Some (other ∷ others))).0 (is_over_names t (Some (name ∷ names)) (Some (other ∷ others))).0 e where
      by : (w : Result ℕ Refusal) → (w ≡ Err Stopped → ⊥) → (v : Result ℕ Refusal) → (v ≡ Err Stopped → ⊥) → (a b c d f : Bool) → replace_told w v a b c d f ≡ Some Stopped → ⊥
      by (Err r) off v on a b c d f e = off (let same : r ≡ Stopped = cc in ap (λ (x : Refusal). Err x) same)
      by (Ok k) off (Err r) on a b c d f e = on (let same : r ≡ Stopped = cc in ap (λ (x : Refusal). Err x) same)
      by (Ok k) off (Ok j) on true b c d f e = absurd (cc)
      by (Ok k) off (Ok j) on false true c d f e = absurd (cc)
      by (Ok k) off (Ok j) on false false true d f e = absurd (cc)
      by (Ok k) off (Ok j) on false false false true f e = absurd (cc)
      by (Ok k) off (Ok j) on false false false false true e = absurd (cc)
      by (Ok k) off (Ok j) on false false false false false e = absurd (cc)

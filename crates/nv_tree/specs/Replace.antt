-- What `replace` makes of the tree, and its tests: it is `rename`, also to a name that stands for another inode, which goes or
-- loses a link.
use Rattle.std.specs.Prelude.{◌≡◌, ◌≢◌, ℕ, Bool, false, not, is_some, ◌&&◌, nat_lt, eqb, if◌then◌else◌, List, [], ◌∷◌, ◌++◌, Some, Ok}
use Rattle.std.specs.Option.{option_map_or}
use Rattle.nv_tree.specs.declared.refusal.Refusal.{Refusal}
use Rattle.nv_tree.specs.declared.refusal.Refusal.TheVariants.{NotDirectory, IsDirectory, NotEmpty}
use Rattle.nv_tree.specs.Tree.{Tree, walk, found}
use Rattle.nv_tree.specs.Calls.{unlinked, removed, renamed}
use Rattle.nv_tree.specs.Refusals.{Tests, Path, World, count_at, has_no_space, is_bad_name, is_directory_at, is_into_itself, is_missing, target, walk_tests, writing}
use Rattle.nv_tree.specs.Laws.{HasNoNames}

-- both paths lead to one inode
abbrev pub are_one : Tree → Path → Path → Bool
are_one t p q = option_map_or (λ i. option_map_or (eqb i) (target t q) false) (target t p) false

-- the path leads to a directory
abbrev pub at_directory : Tree → Path → Bool
at_directory t p = option_map_or (is_directory_at t) (target t p) false

-- the tree without what a path leads to: a directory and its name less, or a name of a file
abbrev pub vacated : List (List ℕ) → ℕ → Tree → Tree
vacated names time t = if at_directory t (Some names) then removed names time t else unlinked names time t

-- `replace`: what the new path leads to goes, and then it is `rename`; one inode by both paths stays as it is
abbrev pub replaced : List (List ℕ) → List (List ℕ) → ℕ → Tree → Tree
replaced old new time t = if are_one t (Some old) (Some new) then t else renamed old new time (vacated new time t)

-- ---- tests

-- it would take the place of a directory, and is none
abbrev pub is_over_directory : Tree → Path → Path → Bool × Refusal
is_over_directory t p q = (not (at_directory t p) && at_directory t q, IsDirectory)

-- it is a directory, and would take the place of a file
abbrev pub is_over_file : Tree → Path → Path → Bool × Refusal
is_over_file t p q = (at_directory t p && (is_some (target t q) && not (at_directory t q)), NotDirectory)

-- it would take the place of another that has names
abbrev pub is_over_names : Tree → Path → Path → Bool × Refusal
is_over_names t p q = (not (are_one t p q) && option_map_or (λ i. nat_lt 0 (count_at t i)) (target t q) false, NotEmpty)

-- `replace`, from the old path to the new one
abbrev pub replace_tests : World → Tree → ℕ → Path → Path → ℕ → Tests
replace_tests w t cpu p q needed = writing w cpu (is_bad_name p ∷ is_bad_name q ∷ walk_tests t p ++ walk_tests t q
    ++ is_missing t p ∷ is_into_itself t p q ∷ is_over_directory t p q ∷ is_over_file t p q ∷ is_over_names t p q ∷ has_no_space w needed ∷ [])

-- ---- what the laws are told

-- A name of directory d stands for inode i, and a name of directory e for another, j, a file or a directory without names.
pub record Replaces (t : Tree) (old new : List (List ℕ)) (i j d e : ℕ) : Type 0 where
  pub from : walk t 1 old ≡ Ok d
  pub way : walk t 1 new ≡ Ok e
  pub moved : found t old ≡ Some i
  pub there : found t new ≡ Some j
  pub differ : i ≢ j
  pub bare : HasNoNames t j

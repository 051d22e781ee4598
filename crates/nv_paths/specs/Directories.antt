-- Names in directories by their numbers: what one stands for, where one comes or goes, and the tests of the calls on them.
use Rattle.std.specs.Prelude.{◌≡◌, ℕ, nat_lt, nat_le, not, Bool, false, ◌&&◌, is_none, is_some, List, ◌∷◌, ◌++◌, length, slice_get, Option, Some}
use Rattle.std.specs.Option.{option_map, option_map_or}
use Rattle.nv_super.specs.declared.kind.Kind.TheVariants.{Directory}
use Rattle.nv_super.specs.Layout.{most_links}
use Rattle.nv_entry.specs.Content.{has_bad_byte, is_dots}
use Rattle.nv_names.specs.Names.{name_at}
use Rattle.nv_scan.specs.declared.piece.Row.{Row}
use Rattle.nv_tree.specs.declared.refusal.Refusal.{Refusal}
use Rattle.nv_tree.specs.declared.refusal.Refusal.TheVariants.{BadName, Exists, IsDirectory, LinkLimit, NoInodes, NotDirectory, NotEmpty, NotFound}
use Rattle.nv_tree.specs.Tree.{Tree, as_directory, in_use, name_in}
use Rattle.nv_tree.specs.Calls.{links_at}
use Rattle.nv_tree.specs.Refusals.{Tests, count_at, is_directory_at, refused_walk}

-- a name that a path can say: 1 to 255 bytes, no byte 0, no `/`, and not `.` or `..`
abbrev pub can_be_name : List ℕ → Bool
can_be_name name = nat_lt 0 (length name) && (nat_le (length name) 255 && (not (has_bad_byte name) && not (is_dots name)))

-- the inode in use that a name of a directory stands for
abbrev pub named_in : Tree → ℕ → List ℕ → Option ℕ
named_in t d name = in_use t (name_in t d name)

-- ---- tests

-- no path can say the name
abbrev pub is_no_name : List ℕ → Bool × Refusal
is_no_name name = (not (can_be_name name), BadName)

-- no inode in use has the number, or a file has it
abbrev pub directory_tests : Tree → ℕ → Tests
directory_tests t d = refused_walk (as_directory d (t d))

-- no inode in use has the name
abbrev pub is_missing_in : Tree → ℕ → List ℕ → Bool × Refusal
is_missing_in t d name = (is_none (named_in t d name), NotFound)

-- an inode in use has the name
abbrev pub is_there_in : Tree → ℕ → List ℕ → Bool × Refusal
is_there_in t d name = (is_some (named_in t d name), Exists)

-- it is a directory
abbrev pub is_dir_in : Tree → ℕ → List ℕ → Bool × Refusal
is_dir_in t d name = (option_map_or (is_directory_at t) (named_in t d name) false, IsDirectory)

-- it is no directory
abbrev pub is_no_dir_in : Tree → ℕ → List ℕ → Bool × Refusal
is_no_dir_in t d name = (not (option_map_or (is_directory_at t) (named_in t d name) false), NotDirectory)

-- it has names
abbrev pub has_names_in : Tree → ℕ → List ℕ → Bool × Refusal
has_names_in t d name = (option_map_or (λ i. nat_lt 0 (count_at t i)) (named_in t d name) false, NotEmpty)

-- ---- tests of calls, before others

-- a name and its directory
abbrev pub name_tests : Tree → ℕ → List ℕ → Tests → Tests
name_tests t d name more = is_no_name name ∷ directory_tests t d ++ more

-- a name that is there
abbrev pub lookup_tests : Tree → ℕ → List ℕ → Tests → Tests
lookup_tests t d name more = name_tests t d name (is_missing_in t d name ∷ more)

-- a name that a new inode gets, by its number
abbrev pub spot_tests : Tree → Option ℕ → ℕ → List ℕ → Tests → Tests
spot_tests t unused d name more = name_tests t d name (is_there_in t d name ∷ (is_none unused, NoInodes) ∷ more)

-- `unlink` takes no directory
abbrev pub unlink_spot_tests : Tree → ℕ → List ℕ → Tests → Tests
unlink_spot_tests t d name more = lookup_tests t d name (is_dir_in t d name ∷ more)

-- `rmdir` takes a directory without names
abbrev pub rmdir_spot_tests : Tree → ℕ → List ℕ → Tests → Tests
rmdir_spot_tests t d name more = lookup_tests t d name (is_no_dir_in t d name ∷ has_names_in t d name ∷ more)

-- `link` gives a file the name, by the file's number, which has fewer links than a file can have
abbrev pub link_spot_tests : Tree → ℕ → ℕ → List ℕ → Tests → Tests
link_spot_tests t i d name more =
    name_tests t d name ((is_none (t i), NotFound) ∷ (is_directory_at t i, IsDirectory) ∷ is_there_in t d name ∷ (nat_le most_links (links_at t i), LinkLimit) ∷ more)

-- ---- places

-- The row at this place is that of this directory.
abbrev pub IsDirectoryAt : List Row → ℕ → ℕ → Type 0
IsDirectoryAt rows d place = (row : Row) → slice_get rows place ≡ Some row → (row.inode ≡ d) × (row.kind ≡ Directory)

-- The name stands in the directory whose row is at one place, for the inode whose row is at another.
pub record IsNamedIn (t : Tree) (rows : List Row) (d : ℕ) (place : ℕ) (name : List ℕ) (target : ℕ) : Type 0 where
  pub directory : IsDirectoryAt rows d place
  pub leads : (row : Row) → slice_get rows target ≡ Some row → named_in t d name ≡ Some row.inode
  pub named : (row i : Row) → slice_get rows place ≡ Some row → slice_get rows target ≡ Some i → option_map (λ (x : ℕ × ℕ). x.0) (name_at row.names name) ≡ Some i.inode

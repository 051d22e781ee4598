-- The tests of each call in their order: the first that holds names the refusal.
use Rattle.std.specs.Prelude.{◌≡◌, ◌⊎◌, ℕ, Bool, true, false, not, nat_lt, nat_le, ◌&&◌, if◌then◌else◌, is_some, is_none, List, [], ◌∷◌, ◌++◌, Option, Some, None, Result, Ok, Err, codes, eqb}
use Rattle.std.specs.List.{list_any}
use Rattle.std.specs.Option.{option_map_or}
use Rattle.nv_super.specs.Layout.{most_size, most_links}
use Rattle.nv_tree.specs.declared.refusal.Refusal.{Refusal}
use Rattle.nv_tree.specs.declared.refusal.Refusal.TheVariants.{NotFound, Exists, NotDirectory, IsDirectory, NotEmpty, BadName, NoSpace, NoInodes, TooLarge, ReadOnly, LinkLimit, IntoItself, BadCpu}
use Rattle.nv_tree.specs.declared.refusal.Refusal.TheVariants.{Memory, Stopped, IsVersion2}
use Rattle.nv_tree.specs.Tree.{Node, Tree, walk, found, passed, is_directory}
use Rattle.nv_tree.specs.Calls.{links_at}

-- the word that a script prints for a refusal
abbrev pub refusal_word : Refusal → List ℕ
refusal_word NotFound = codes "NotFound"
refusal_word Exists = codes "Exists"
refusal_word NotDirectory = codes "NotDirectory"
refusal_word IsDirectory = codes "IsDirectory"
refusal_word NotEmpty = codes "NotEmpty"
refusal_word BadName = codes "BadName"
refusal_word NoSpace = codes "NoSpace"
refusal_word NoInodes = codes "NoInodes"
refusal_word TooLarge = codes "TooLarge"
refusal_word ReadOnly = codes "ReadOnly"
refusal_word LinkLimit = codes "LinkLimit"
refusal_word IntoItself = codes "IntoItself"
refusal_word BadCpu = codes "BadCpu"
refusal_word Memory = codes "Memory"
refusal_word Stopped = codes "Stopped"
refusal_word IsVersion2 = codes "IsVersion2"

-- tests, each with the refusal that it stands for
abbrev pub Tests : Type 0
Tests = List (Bool × Refusal)

-- the refusal of the first test that holds
abbrev pub first_refusal : Tests → Option Refusal
first_refusal [] = None
first_refusal (x ∷ tests) = if x.0 then Some x.1 else first_refusal tests

-- Want of memory comes last: no refusal applies, or the first is that of the space, for which some memory is wanted before.
abbrev pub MayWantMemory : Option Refusal → Type 0
MayWantMemory first = (first ≡ None) ⊎ (first ≡ Some NoSpace)

-- why a call that writes is refused, by the first refusal that applies: want of memory, where that comes last; a stop; or that
-- refusal
abbrev pub IsRefusedBy : Option Refusal → Refusal → Type 0
IsRefusedBy first e = ((e ≡ Memory) × MayWantMemory first) ⊎ ((e ≡ Stopped) ⊎ (first ≡ Some e))

-- the same of a call that reads, which takes no space, and which no stop refuses
abbrev pub IsReadRefusedBy : Option Refusal → Refusal → Type 0
IsReadRefusedBy first e = ((e ≡ Memory) × (first ≡ None)) ⊎ (first ≡ Some e)

-- What stands beside the tree: the CPUs, whether it was mounted with faults, the number that a new inode of each CPU gets,
-- and how many blocks are free.
pub record World : Type 0 where
  pub cpus : ℕ
  pub read_only : Bool
  pub unused : ℕ → Option ℕ
  pub free : ℕ

-- a path, or nothing where the text was none
abbrev pub Path : Type 0
Path = Option (List (List ℕ))

-- ---- tests

-- the text is no path
abbrev pub is_bad : Path → Bool × Refusal
is_bad p = (is_none p, BadName)

-- no path, or `/`, where a name is made, removed or moved
abbrev pub is_bad_name : Path → Bool × Refusal
is_bad_name None = (true, BadName)
is_bad_name (Some []) = (true, BadName)
is_bad_name (Some (name ∷ names)) = (false, BadName)

-- the refusal of a walk that is refused
abbrev pub refused_walk : Result ℕ Refusal → Tests
refused_walk (Err r) = (true, r) ∷ []
refused_walk (Ok d) = []

-- the walk to the directory of a path's last name
abbrev pub walk_tests : Tree → Path → Tests
walk_tests t None = []
walk_tests t (Some names) = refused_walk (walk t 1 names)

-- the inode in use that a path leads to
abbrev pub target : Tree → Path → Option ℕ
target t None = None
target t (Some names) = found t names

-- no inode in use has the name
abbrev pub is_missing : Tree → Path → Bool × Refusal
is_missing t p = (is_none (target t p), NotFound)

-- an inode in use has the name
abbrev pub is_there : Tree → Path → Bool × Refusal
is_there t p = (is_some (target t p), Exists)

-- whether a number is a directory in use
abbrev pub is_directory_at : Tree → ℕ → Bool
is_directory_at t i = option_map_or (λ (node : Node). is_directory node.kind) (t i) false

-- it is a directory
abbrev pub is_dir : Tree → Path → Bool × Refusal
is_dir t p = (option_map_or (is_directory_at t) (target t p) false, IsDirectory)

-- it is no directory
abbrev pub is_no_dir : Tree → Path → Bool × Refusal
is_no_dir t p = (not (option_map_or (is_directory_at t) (target t p) false), NotDirectory)

-- how many names a number has in it
abbrev pub count_at : Tree → ℕ → ℕ
count_at t i = option_map_or (λ (node : Node). node.count) (t i) 0

-- it has names
abbrev pub has_names : Tree → Path → Bool × Refusal
has_names t p = (option_map_or (λ i. nat_lt 0 (count_at t i)) (target t p) false, NotEmpty)

-- it has as many links as a file can have
abbrev pub has_most_links : Tree → Path → Bool × Refusal
has_most_links t p = (option_map_or (λ i. nat_le most_links (links_at t i)) (target t p) false, LinkLimit)

-- more bytes than a file can have
abbrev pub is_too_large : ℕ → Bool × Refusal
is_too_large size = (nat_lt most_size size, TooLarge)

-- the walk to the second path's last name passes a number
abbrev pub passes : Tree → Path → ℕ → Bool
passes t None i = false
passes t (Some names) i = list_any (eqb i) (passed t 1 names)

-- it is a directory, and the way to the new name passes it
abbrev pub is_into_itself : Tree → Path → Path → Bool × Refusal
is_into_itself t p q = (option_map_or (λ i. is_directory_at t i && passes t q i) (target t p) false, IntoItself)

-- a new inode of the CPU gets no number
abbrev pub has_no_slot : World → ℕ → Bool × Refusal
has_no_slot w cpu = (is_none (w.unused cpu), NoInodes)

-- fewer blocks are free than are needed
abbrev pub has_no_space : World → ℕ → Bool × Refusal
has_no_space w needed = (nat_lt w.free needed, NoSpace)

-- ---- the tests of each call

-- the tests that every writing call begins with
abbrev pub writing : World → ℕ → Tests → Tests
writing w cpu tests = (not (nat_lt cpu w.cpus), BadCpu) ∷ (w.read_only, ReadOnly) ∷ tests

-- `create` and `mkdir`
abbrev pub create_tests : World → Tree → ℕ → Path → ℕ → Tests
create_tests w t cpu p needed = writing w cpu (is_bad_name p ∷ walk_tests t p ++ is_there t p ∷ has_no_slot w cpu ∷ has_no_space w needed ∷ [])

-- `write`, with the offset and the number of bytes in one
abbrev pub write_tests : World → Tree → ℕ → Path → ℕ → ℕ → Tests
write_tests w t cpu p end needed = writing w cpu (is_bad p ∷ walk_tests t p ++ is_missing t p ∷ is_dir t p ∷ is_too_large end ∷ has_no_space w needed ∷ [])

-- `set_size`
abbrev pub set_size_tests : World → Tree → ℕ → Path → ℕ → ℕ → Tests
set_size_tests w t cpu p size needed = writing w cpu (is_bad p ∷ walk_tests t p ++ is_missing t p ∷ is_dir t p ∷ is_too_large size ∷ has_no_space w needed ∷ [])

-- `set_attr`
abbrev pub set_attr_tests : World → Tree → ℕ → Path → ℕ → Tests
set_attr_tests w t cpu p needed = writing w cpu (is_bad p ∷ walk_tests t p ++ is_missing t p ∷ has_no_space w needed ∷ [])

-- `link`, from the old path to the new one
abbrev pub link_tests : World → Tree → ℕ → Path → Path → ℕ → Tests
link_tests w t cpu p q needed = writing w cpu (is_bad p ∷ is_bad_name q ∷ walk_tests t p ++ walk_tests t q
    ++ is_missing t p ∷ is_dir t p ∷ is_there t q ∷ has_most_links t p ∷ has_no_space w needed ∷ [])

-- `unlink`
abbrev pub unlink_tests : World → Tree → ℕ → Path → ℕ → Tests
unlink_tests w t cpu p needed = writing w cpu (is_bad_name p ∷ walk_tests t p ++ is_missing t p ∷ is_dir t p ∷ has_no_space w needed ∷ [])

-- `rmdir`
abbrev pub rmdir_tests : World → Tree → ℕ → Path → ℕ → Tests
rmdir_tests w t cpu p needed = writing w cpu (is_bad_name p ∷ walk_tests t p ++ is_missing t p ∷ is_no_dir t p ∷ has_names t p ∷ has_no_space w needed ∷ [])

-- `rename`, from the old path to the new one
abbrev pub rename_tests : World → Tree → ℕ → Path → Path → ℕ → Tests
rename_tests w t cpu p q needed = writing w cpu (is_bad_name p ∷ is_bad_name q ∷ walk_tests t p ++ walk_tests t q ++ is_missing t p ∷ is_into_itself t p q ∷ is_there t q ∷ has_no_space w needed ∷ [])

-- `read`
abbrev pub read_tests : Tree → Path → Tests
read_tests t p = is_bad p ∷ walk_tests t p ++ is_missing t p ∷ is_dir t p ∷ []

-- `list`
abbrev pub list_tests : Tree → Path → Tests
list_tests t p = is_bad p ∷ walk_tests t p ++ is_missing t p ∷ is_no_dir t p ∷ []

-- `stat`
abbrev pub stat_tests : Tree → Path → Tests
stat_tests t p = is_bad p ∷ walk_tests t p ++ is_missing t p ∷ []

-- `clean`, which names no CPU
abbrev pub clean_tests : World → Tree → Path → Tests
clean_tests w t p = (w.read_only, ReadOnly) ∷ stat_tests t p

-- `upgrade`, by the region's version: it names no CPU and no path
abbrev pub upgrade_tests : World → ℕ → Tests
upgrade_tests w version = (w.read_only, ReadOnly) ∷ (eqb version 2, IsVersion2) ∷ []

-- Which entries of a tree are further names of a file.
use Rattle.std.specs.Prelude.{◌≡◌, ℕ, ◌&&◌, nat_eq, nat_lt, Bool, true, false, if◌then◌else◌, List, [], ◌∷◌, ◌++◌, Option, Some, None, option_map, string_bytes}
use Rattle.std.specs.Borrow.{Bor}
use Rattle.std.specs.BTreeMap.{BTreeMap, get}
use Rattle.std.specs.Ordering.{nat_cmp, ordering_then}
use Rattle.std.specs.declared.cmp.Ordering.{Ordering}
use Rattle.nv_host.specs.declared.found.Found.{Found}
use Rattle.nv_host.specs.declared.found.HostKind.{HostKind}
use Rattle.nv_host.specs.declared.found.HostKind.TheVariants.{File, Directory}
use Rattle.nv_host.specs.declared.walking.HostEntry.{HostEntry}

-- it is a file
abbrev pub is_file : HostKind → Bool
is_file File = true
is_file Directory = false

-- a file that the system knows by more names than one
abbrev pub is_shared : Found → Bool
is_shared found = is_file found.kind && nat_lt 1 found.links

-- both are names of one such file
abbrev pub are_one_file : Found → Found → Bool
are_one_file found other = is_shared found && (is_shared other && (nat_eq found.device other.device && nat_eq found.inode other.inode))

-- the path of the first of these entries that is a name of the file, where there is one
abbrev pub first_name : List HostEntry → Found → Option (List ℕ)
first_name [] found = None
first_name (e ∷ es) found = if are_one_file found e.found then Some (string_bytes e.path) else first_name es found

-- for each of these entries, behind others, the path of the first one of its file that stands before it
abbrev pub links_behind : List HostEntry → List HostEntry → List (Option (List ℕ))
links_behind before [] = []
links_behind before (e ∷ es) = first_name before e.found ∷ links_behind (before ++ e ∷ []) es

-- for each entry the path of the first one of its file, where that stands before it
abbrev pub links_said : List HostEntry → List (Option (List ℕ))
links_said entries = links_behind [] entries

-- the text of a path, where there is one
abbrev pub path_of : Option (Bor (List ℕ)) → Option (List ℕ)
path_of link = option_map (λ path. path.now) link

-- ---- within

-- the order of two numbers, by the first and then by the second
abbrev pub pair_cmp : ℕ × ℕ → ℕ × ℕ → Ordering
pair_cmp x y = ordering_then (nat_cmp x.0 y.0) (nat_cmp x.1 y.1)

-- what is kept of these entries is the path of the first name of each shared file, by device and inode
abbrev pub Keeps : List HostEntry → BTreeMap (ℕ × ℕ) (Bor (List ℕ)) → Type 0
Keeps entries firsts = (found : Found) → is_shared found ≡ true → path_of (get pair_cmp firsts (found.device, found.inode)) ≡ first_name entries found

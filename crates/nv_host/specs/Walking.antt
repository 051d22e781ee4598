-- What stands in a tree of the host, level by level.
use Rattle.std.specs.Prelude.{◌≡◌, ℕ, ◌+◌, List, [], ◌∷◌, ◌++◌, map, Some, slice_get, string_bytes}
use Rattle.nv_host.specs.declared.found.HostKind.{HostKind}
use Rattle.nv_host.specs.declared.found.HostKind.TheVariants.{File, Directory}
use Rattle.nv_host.specs.declared.walking.HostEntry.{HostEntry}
use Rattle.nv_host.specs.Names.{ListsNames}
use Rattle.nv_host.specs.Places.{with_slash}

-- where a tree begins: the system follows a link that stands there to a directory
abbrev pub top_place : HostKind → List ℕ → List ℕ
top_place Directory root = with_slash root
top_place File root = root

-- The tree at a path of the host begins with this entry, whose own path is `.`.
pub record IsTop (root : List ℕ) (top : HostEntry) : Type 0 where
  pub path : string_bytes top.path ≡ 46 ∷ []
  pub place : string_bytes top.place ≡ top_place top.found.kind root

-- The entries have these names in the directory at this path and place.
pub record AreNamed (path place : List ℕ) (names : List (List ℕ)) (entries : List HostEntry) : Type 0 where
  pub paths : map (λ entry. string_bytes entry.path) entries ≡ map (λ name. with_slash path ++ name) names
  pub places : map (λ entry. string_bytes entry.place) entries ≡ map (λ name. with_slash place ++ name) names

-- The entries are those of what a directory lists: each has a name of it, and the names rise by bytes.
pub record AreIn (folder : HostEntry) (entries : List HostEntry) : Type 0 where
  pub listing : List ℕ
  pub names : List (List ℕ)
  pub listed : ListsNames listing names
  pub named : AreNamed (string_bytes folder.path) (string_bytes folder.place) names entries

-- The entries of a tree as far as it is walked: what it begins with, and what stands in each directory among the first so many
-- entries, directory by directory.
pub data IsWalked (root : List ℕ) : List HostEntry → ℕ → Type 0 where
  begins : (top : HostEntry) → IsTop root top → IsWalked root (top ∷ []) 0
  passes : (entries : List HostEntry) (count : ℕ) (file : HostEntry) → slice_get entries count ≡ Some file → file.found.kind ≡ File → IsWalked root entries count
      → IsWalked root entries (count + 1)
  enters : (entries inside : List HostEntry) (count : ℕ) (folder : HostEntry) → slice_get entries count ≡ Some folder → folder.found.kind ≡ Directory → IsWalked root entries count
      → AreIn folder inside → IsWalked root (entries ++ inside) (count + 1)

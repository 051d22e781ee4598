-- What the checks make, step by step.
use Rattle.std.specs.Prelude.{◌≡◌, ℕ, ◌+◌, ◌<◌, ◌≤◌, ◌==◌, Bool, true, false, not, if◌then◌else◌, List, [], ◌∷◌, ◌++◌, length, count_by, Option, Some, None, is_some, slice_index, slice_index_or, ◌⊎◌}
use Rattle.std.specs.List.{Contains, flat_map, filter_map, list_any}
use Rattle.nv_super.specs.declared.kind.Kind.{Kind}
use Rattle.nv_super.specs.declared.kind.Kind.TheVariants.{File, Directory}
use Rattle.nv_super.specs.declared.faults.Fault.{Fault}
use Rattle.nv_super.specs.declared.faults.Fault.TheVariants as faults
use Rattle.nv_names.specs.declared.named.Named.{Named}
use Rattle.nv_scan.specs.declared.row_list.RowHead.{RowHead}
use Rattle.nv_cross_check.specs.Listing.{Listing}
use Rattle.nv_cross_check.specs.Listings.{inodes_of, target, names_of, IsReached, IsFault}

-- where the row of an inode stands, by a table
abbrev pub place_of : List (Option ℕ) → ℕ → Option ℕ
place_of table i = slice_index_or table i None

-- The table gives the places of the first n of these inodes, and no others.
pub record ArePlacesTo (inodes : List ℕ) (n : ℕ) (table : List (Option ℕ)) : Type 0 where
  pub at : (i k : ℕ) → place_of table i ≡ Some k → (k < n) × (slice_index inodes k ≡ i)
  pub all : (k : ℕ) → k < n → place_of table (slice_index inodes k) ≡ Some k

-- the table gives the places of the rows by their inodes
abbrev pub ArePlaces : List Listing → List (Option ℕ) → Type 0
ArePlaces listings table = ArePlacesTo (inodes_of listings) (length listings) table

-- places below n, each of one inode at most
pub record IsTable (n : ℕ) (table : List (Option ℕ)) : Type 0 where
  pub within : (i k : ℕ) → place_of table i ≡ Some k → k < n
  pub once : (i j k : ℕ) → place_of table i ≡ Some k → place_of table j ≡ Some k → i ≡ j

-- the fault of a name whose inode isn't in use
abbrev pub unused_fault : List (Option ℕ) → ℕ → Named → Option Fault
unused_fault table d x = if is_some (place_of table (target x)) then None else Some (faults.C1 d x.place)

-- the faults of a row's names whose inodes aren't in use
abbrev pub unused_of : List (Option ℕ) → Listing → List Fault
unused_of table l = filter_map (unused_fault table l.inode) l.names

-- the same of all rows
abbrev pub unused_faults : List (Option ℕ) → List Listing → List Fault
unused_faults table listings = flat_map (unused_of table) listings

-- the fault of an inode of a kind that has n names
abbrev pub count_fault_of : Kind → ℕ → ℕ → ℕ → Option Fault
count_fault_of Directory i links n = if i == 1 then (if n == 0 then None else Some (faults.C2 i)) else (if n == 1 then None else Some (faults.C2 i))
count_fault_of File i links n = if links == n then None else Some (faults.C3 i)

-- the fault of an inode that has so many names
abbrev pub count_fault : List Listing → Listing → Option Fault
count_fault listings l = count_fault_of l.kind l.inode l.links (names_of listings l.inode)

-- how often each inode of the table is named by these, at its place
pub record AreCounts (n : ℕ) (table : List (Option ℕ)) (named counts : List ℕ) : Type 0 where
  pub same : length counts ≡ n
  pub each : (i k : ℕ) → place_of table i ≡ Some k → slice_index counts k ≡ count_by (λ t. t == i) named

-- the new counts are the old ones, with what is named more
abbrev pub CountsMore : List (Option ℕ) → List ℕ → List ℕ → List ℕ → Type 0
CountsMore table more old new = (named : List ℕ) → AreCounts (length old) table named old → AreCounts (length old) table (named ++ more) new

-- how many names each row's inode has
pub record AreNumbersOfNames (listings : List Listing) (counts : List ℕ) : Type 0 where
  pub same : length counts ≡ length listings
  pub each : (k : ℕ) (l : Listing) → k < length listings → slice_index_or listings k l ≡ l → slice_index counts k ≡ names_of listings l.inode

-- the mark at k is set
abbrev pub IsMarked : List Bool → ℕ → Type 0
IsMarked marks k = slice_index_or marks k false ≡ true

-- how many marks aren't set
abbrev pub unmarked : List Bool → ℕ
unmarked marks = count_by not marks

-- l is the row at place k
abbrev pub IsAt : List Listing → ℕ → Listing → Type 0
IsAt listings k l = (k < length listings) × (slice_index_or listings k l ≡ l)

-- what the head of the row at place k says is what its listing says
abbrev pub HasHead : List Listing → ℕ → RowHead → Type 0
HasHead listings k h = (l : Listing) × IsAt listings k l × (h.inode ≡ l.inode) × (h.kind ≡ l.kind) × (h.links ≡ l.links)

-- the names of the row at place k
abbrev pub HasNamesAt : List Listing → ℕ → List Named → Type 0
HasNamesAt listings k names = (l : Listing) × IsAt listings k l × (names ≡ l.names)

-- the row at place k has no names
abbrev pub IsNameless : List Listing → ℕ → Type 0
IsNameless listings k = (l : Listing) → IsAt listings k l → l.names ≡ []

-- What marking the inodes that are named here does to the marks and the places that are open. A row without names needn't be opened.
pub record Spreads (listings : List Listing) (table : List (Option ℕ)) (named : List ℕ) (marks : List Bool) (todo : List ℕ) (marks' : List Bool) (todo' : List ℕ) : Type 0 where
  pub same : length marks' ≡ length marks
  pub kept : (k : ℕ) → IsMarked marks k → IsMarked marks' k
  pub from : (k : ℕ) → IsMarked marks' k → IsMarked marks k ⊎ ((Contains todo' k ⊎ IsNameless listings k) × (i : ℕ) × Contains named i × (place_of table i ≡ Some k))
  pub all : (i k : ℕ) → Contains named i → place_of table i ≡ Some k → IsMarked marks' k
  pub todo_kept : (k : ℕ) → Contains todo k → Contains todo' k
  pub todo_from : (k : ℕ) → Contains todo' k → Contains todo k ⊎ (IsMarked marks' k × (k < length marks))
  pub work : length todo' + unmarked marks' ≤ length todo + unmarked marks

-- what the row's names name is marked
abbrev pub NamesMarked : List (Option ℕ) → List Bool → Listing → Type 0
NamesMarked table marks l = (x : Named) → Contains l.names x → (j : ℕ) → place_of table (target x) ≡ Some j → IsMarked marks j

-- The marks so far, when the names of these places are still to be followed.
pub record Reaching (listings : List Listing) (table : List (Option ℕ)) (marks : List Bool) (todo : List ℕ) : Type 0 where
  pub same : length marks ≡ length listings
  pub sound : (k : ℕ) (l : Listing) → IsAt listings k l → IsMarked marks k → IsReached listings l.inode
  pub todo_marked : (k : ℕ) → Contains todo k → IsMarked marks k × (k < length listings)
  pub closed : (k : ℕ) (l : Listing) → IsAt listings k l → IsMarked marks k → Contains todo k ⊎ NamesMarked table marks l
  pub root : (k : ℕ) (l : Listing) → IsAt listings k l → l.inode ≡ 1 → l.kind ≡ Directory → IsMarked marks k

-- Just the places of reached inodes are marked.
pub record AreReached (listings : List Listing) (marks : List Bool) : Type 0 where
  pub same : length marks ≡ length listings
  pub sound : (k : ℕ) (l : Listing) → IsAt listings k l → IsMarked marks k → IsReached listings l.inode
  pub all : (k : ℕ) (l : Listing) → IsAt listings k l → IsReached listings l.inode → IsMarked marks k

-- the new faults are the old ones and those of which P holds
pub record Adds (P : Fault → Type 0) (old new : List Fault) : Type 0 where
  pub each : (f : Fault) → Contains new f → Contains old f ⊎ P f
  pub kept : (f : Fault) → Contains old f → Contains new f
  pub all : (f : Fault) → P f → Contains new f

-- just what is wrong between the listed rows
abbrev pub AreFaults : List Listing → List Fault → Type 0
AreFaults listings found = (f : Fault) → (Contains found f → IsFault listings f) × (IsFault listings f → Contains found f)

-- an inode before place n that isn't marked
abbrev pub IsUnmarkedBelow : List Listing → List Bool → ℕ → Fault → Type 0
IsUnmarkedBelow listings marks n f = (k : ℕ) × (l : Listing) × (k < n) × IsAt listings k l × (slice_index_or marks k false ≡ false) × (f ≡ faults.C4 l.inode)

-- what is wrong with the paths from the root
pub data IsFar (listings : List Listing) : Fault → Type 0 where
  unreached : (l : Listing) → Contains listings l → (IsReached listings l.inode → ⊥) → IsFar listings (faults.C4 l.inode)
  no_root : ((l : Listing) → Contains listings l → l.inode ≡ 1 → l.kind ≡ Directory → ⊥) → IsFar listings faults.C5

-- inode 1 as a directory
abbrev pub is_root_of : Kind → ℕ → Bool
is_root_of Directory i = i == 1
is_root_of File i = false

-- the row is that of the root directory
abbrev pub is_root : Listing → Bool
is_root l = is_root_of l.kind l.inode

-- the fault of a region whose inode 1 isn't a directory
abbrev pub root_faults : List Listing → List Fault
root_faults listings = if list_any is_root listings then [] else (faults.C5 ∷ [])

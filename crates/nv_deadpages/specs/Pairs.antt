-- Pages of a log in which the entries of a name don't go in pairs.
use Rattle.std.specs.Prelude.{◌≡◌, ◌≢◌, ◌/◌, ◌==◌, ◌&&◌, Bool, not, false, is_some, ℕ, List, [], ◌∷◌, Option, if◌then◌else◌, IsTrue}
use Rattle.std.specs.List.{Contains, filter}
use Rattle.nv_region.specs.Region.{Region}
use Rattle.nv_super.specs.declared.superblock.Super.{Super}
use Rattle.nv_super.specs.declared.kind.Kind.{Kind}
use Rattle.nv_entry.specs.Content.{is_good}
use Rattle.nv_logpage.specs.declared.found.LogEnd.{LogEnd}
use Rattle.nv_logpage.specs.declared.found.Placed.{Placed}
use Rattle.nv_logpage.specs.Progress.{Progress, Leads}
use Rattle.nv_logpage.specs.Reads.{Reads}
use Rattle.nv_names.specs.Names.{Names, name_at}
use Rattle.nv_scan.specs.Fold.{Holds}
use Rattle.nv_deadpages.specs.Standing.{Stand}
use Rattle.nv_scan.specs.State.{says_name}
use Rattle.nv_scan.specs.declared.fold.Fold.{Fold}
use Rattle.nv_scan.specs.declared.piece.Row.{Row}

-- a good entry of this name
abbrev pub is_of_name : Super → Kind → List ℕ → Placed → Bool
is_of_name s kind q x = is_good s kind x.entry && is_some (says_name q x)

-- whether a list has an odd number of elements that pass a test
abbrev pub is_odd : {A : Type 0} → (A → Bool) → List A → Bool
is_odd test [] = false
is_odd test (x ∷ xs) = if test x then not (is_odd test xs) else is_odd test xs

-- the entries that stand in a page
abbrev pub in_page : ℕ → List Placed → List Placed
in_page b es = filter (λ (x : Placed). x.at / 4096 == b) es

-- not every name has an even number of good entries in the page
abbrev pub IsUnpaired : Super → Kind → List Placed → ℕ → Type 0
IsUnpaired s kind es page = ((q : List ℕ) → is_odd (is_of_name s kind q) (in_page page es) ≡ false) → ⊥

-- the index has the names of which a list has an odd number of entries
abbrev pub AreOpen : Super → Kind → List Placed → Names → Type 0
AreOpen s kind es open_names = (q : List ℕ) → is_some (name_at open_names q) ≡ is_odd (is_of_name s kind q) es

-- what an entry makes of these names
abbrev pub Toggles : Super → Kind → Placed → Names → Names → Type 0
Toggles s kind x old new = (q : List ℕ) → is_some (name_at new q) ≡ (if is_of_name s kind q x then not (is_some (name_at old q)) else is_some (name_at old q))

-- The fold holds the whole log, and none of these pages has each of its names in pairs.
pub record AreUnpaired (R : Region) (s : Super) (row : Row) (created : ℕ) (fold : Fold) (found : List ℕ) (pages : List ℕ) (fault : Option LogEnd) : Type 0 where
  pub entries : List Placed
  pub reads : Reads R s row.head row.tail entries pages fault
  pub holds : Holds s row.kind row.inode created entries fold
  pub each : (page : ℕ) → Contains found page → IsUnpaired s row.kind entries page

-- The same while the log is read. Where the page is looked at, the index has the names that are open in it so far.
pub record AreUnpairedSoFar (R : Region) (row : Row) (created : ℕ) (fold : Fold) (found : List ℕ) (reader : Progress) (looks : Bool) (open_names : Names) : Type 0 where
  pub entries : List Placed
  pub leads : Leads R row.head reader entries
  pub holds : Holds reader.sup row.kind row.inode created entries fold
  pub stand : Stand reader entries
  pub each : (page : ℕ) → Contains found page → Contains reader.pages page × (page ≢ reader.place / 4096) × IsUnpaired reader.sup row.kind entries page
  pub are_open : IsTrue looks → AreOpen reader.sup row.kind (in_page (reader.place / 4096) entries) open_names

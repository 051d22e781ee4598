-- Pages of a log that go one after another.
use Rattle.std.specs.Prelude.{◌<◌, ◌/◌, not, ℕ, zero, suc, List, get_or, eqb, Option, Some, None}
use Rattle.std.specs.List.{filter, list_any, remove}
use Rattle.nv_region.specs.Region.{Region}
use Rattle.nv_super.specs.declared.superblock.Super.{Super}
use Rattle.nv_super.specs.declared.kind.Kind.{Kind}
use Rattle.nv_super.specs.declared.faults.Fault.{Fault}
use Rattle.nv_logpage.specs.declared.found.LogEnd.{LogEnd}
use Rattle.nv_logpage.specs.declared.found.Placed.{Placed}
use Rattle.nv_logpage.specs.Good.{good_entries}
use Rattle.nv_logpage.specs.Progress.{Progress, Leads}
use Rattle.nv_logpage.specs.Reads.{Reads}
use Rattle.nv_logpage.specs.Unlinked.{without_page}
use Rattle.nv_deadpages.specs.Dead.{IsFirstDead, IsSaidBy, SameState}
use Rattle.nv_scan.specs.Faults.{IsEntryFault}
use Rattle.nv_scan.specs.Fold.{Holds}
use Rattle.nv_deadpages.specs.declared.in_turn.DeadPages.{DeadPages}
use Rattle.nv_scan.specs.declared.fold.Fold.{Fold}
use Rattle.nv_scan.specs.declared.piece.Row.{Row}

-- nothing is wrong with an entry of the log
abbrev pub IsCleanLog : Super → Kind → ℕ → List Placed → Type 0
IsCleanLog s kind i es = (f : Fault) → IsEntryFault s kind i es f → ⊥

-- So many pages go one after another, which have this place when they go: each is the first that the log can do without then.
abbrev pub GoInTurn : Super → Kind → ℕ → ℕ → ℕ → ℕ → List Placed → List ℕ → Type 0
GoInTurn s kind i created k zero es pages = Unit {0}
GoInTurn s kind i created k (suc n) es pages = IsFirstDead s kind i created es pages (Some k) × GoInTurn s kind i created k n (without_page (get_or pages k 0) es) (remove pages k)

-- the pages that were found: none, where the log needs each of its pages, or some that go one after another
abbrev pub AreDeadPages : Super → Kind → ℕ → ℕ → List Placed → List ℕ → Option DeadPages → Type 0
AreDeadPages s kind i created es pages None = IsFirstDead s kind i created es pages None
AreDeadPages s kind i created es pages (Some found) = (0 < found.count) × GoInTurn s kind i created found.first found.count es pages

-- ---- within

-- the entries but for those that stand in one of these pages
abbrev pub without_pages : List ℕ → List Placed → List Placed
without_pages out es = filter (λ (x : Placed). not (list_any (eqb (x.at / 4096)) out)) es

-- the log of a row says the same without the entries in these pages
abbrev pub SaysTheSame : Region → Super → ℕ → Row → List ℕ → Type 0
SaysTheSame R s created row out = (es : List Placed) → IsSaidBy R s created es row → SameState created (good_entries s row.kind es) (good_entries s row.kind (without_pages out es))

-- What is kept is what the entries say that stand in none of these pages.
pub record IsReadWithoutPages (R : Region) (s : Super) (row : Row) (created : ℕ) (out : List ℕ) (fold : Fold) (pages : List ℕ) (fault : Option LogEnd) : Type 0 where
  pub entries : List Placed
  pub reads : Reads R s row.head row.tail entries pages fault
  pub holds : Holds s row.kind row.inode created (without_pages out entries) fold

-- The entries that were read so far lead to where the reader is.
pub record IsReadSoFarWithoutPages (R : Region) (row : Row) (created : ℕ) (out : List ℕ) (reader : Progress) (fold : Fold) : Type 0 where
  pub entries : List Placed
  pub leads : Leads R row.head reader entries
  pub holds : Holds reader.sup row.kind row.inode created (without_pages out entries) fold

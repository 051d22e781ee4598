-- The pages of a log without whose entries a page of the file would map elsewhere.
use Rattle.std.specs.Prelude.{◌≡◌, ◌⊎◌, ◌/◌, ℕ, List, Option, Some}
use Rattle.std.specs.List.{Contains}
use Rattle.nv_radix.specs.declared.TheConstants.{MAX_FILE_PAGES}
use Rattle.nv_region.specs.Region.{Region}
use Rattle.nv_super.specs.declared.superblock.Super.{Super}
use Rattle.nv_super.specs.declared.kind.Kind.{Kind}
use Rattle.nv_logpage.specs.declared.found.LogEnd.{LogEnd}
use Rattle.nv_logpage.specs.declared.found.Placed.{Placed}
use Rattle.nv_logpage.specs.Good.{good_entries}
use Rattle.nv_logpage.specs.Progress.{Progress, Leads}
use Rattle.nv_logpage.specs.Reads.{Reads}
use Rattle.nv_logpage.specs.Unlinked.{without_page}
use Rattle.nv_radix.specs.Pages.{Pages, block_at}
use Rattle.nv_radix.specs.Runs.{Runs, block_by}
use Rattle.nv_scan.specs.State.{block_of}
use Rattle.nv_scan.specs.Fold.{Holds}
use Rattle.nv_deadpages.specs.Standing.{Stand}
use Rattle.nv_deadpages.specs.Stamps.{said_last_in}
use Rattle.nv_scan.specs.declared.fold.Fold.{Fold}
use Rattle.nv_scan.specs.declared.piece.Row.{Row}

-- A page of the file has the stamp of this log page, and maps elsewhere now than by the index.
pub record HasChange (now : Runs) (stamps index : Pages) (page : ℕ) : Type 0 where
  pub at : ℕ
  pub stamp : ℕ
  pub stamped : block_at stamps at ≡ Some stamp
  pub by : stamp / MAX_FILE_PAGES ≡ page
  pub other : block_by now at ≡ block_at index at → ⊥

-- A page of the file has the stamp of this log page. If that is the last to say something of it, the page of the file maps
-- elsewhere without its entries than by the index.
pub record Changes (s : Super) (kind : Kind) (es : List Placed) (stamps index : Pages) (page : ℕ) : Type 0 where
  pub at : ℕ
  pub stamp : ℕ
  pub stamped : block_at stamps at ≡ Some stamp
  pub by : stamp / MAX_FILE_PAGES ≡ page
  pub other : said_last_in s kind es at ≡ Some page → block_of (good_entries s kind (without_page page es)) at ≡ block_at index at → ⊥

-- Each of these pages changes a page of the file by the entries of the whole log.
pub record AreChanges (R : Region) (s : Super) (row : Row) (stamps index : Pages) (found : List ℕ) (pages : List ℕ) (fault : Option LogEnd) : Type 0 where
  pub entries : List Placed
  pub reads : Reads R s row.head row.tail entries pages fault
  pub each : (page : ℕ) → Contains found page → Changes s row.kind entries stamps index page

-- The same while the log is read: where the reader stands in the page, the entries that say something are those that are
-- left out.
pub record ChangesSoFar (s : Super) (kind : Kind) (es : List Placed) (stamps index : Pages) (reader : Progress) (page : ℕ) : Type 0 where
  pub at : ℕ
  pub stamp : ℕ
  pub stamped : block_at stamps at ≡ Some stamp
  pub by : stamp / MAX_FILE_PAGES ≡ page
  pub read : Contains reader.pages page
  pub other : (page ≡ reader.place / 4096) ⊎ (said_last_in s kind es at ≡ Some page) → block_of (good_entries s kind (without_page page es)) at ≡ block_at index at → ⊥

-- What was read so far stands in the pages that were read, the fold holds it, and each of the pages that were found so far
-- changes a page of the file.
pub record AreChangesSoFar (R : Region) (row : Row) (created : ℕ) (stamps index : Pages) (found : List ℕ) (reader : Progress) (fold : Fold) : Type 0 where
  pub entries : List Placed
  pub leads : Leads R row.head reader entries
  pub holds : Holds reader.sup row.kind row.inode created entries fold
  pub stand : Stand reader entries
  pub each : (page : ℕ) → Contains found page → ChangesSoFar reader.sup row.kind entries stamps index reader page

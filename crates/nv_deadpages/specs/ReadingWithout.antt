-- A log that is read without the entries in a page.
use Rattle.std.specs.Prelude.{◌≡◌, ℕ, List, length, Option}
use Rattle.nv_region.specs.Region.{Region}
use Rattle.nv_super.specs.declared.superblock.Super.{Super}
use Rattle.nv_logpage.specs.declared.found.LogEnd.{LogEnd}
use Rattle.nv_logpage.specs.declared.found.Placed.{Placed}
use Rattle.nv_logpage.specs.Progress.{Progress, Leads}
use Rattle.nv_logpage.specs.Reads.{Reads}
use Rattle.nv_logpage.specs.Unlinked.{without_page}
use Rattle.nv_names.specs.Names.{name_at}
use Rattle.nv_radix.specs.Pages.{block_at}
use Rattle.nv_radix.specs.Runs.{block_by}
use Rattle.nv_scan.specs.Fold.{Holds}
use Rattle.nv_scan.specs.declared.fold.Fold.{Fold}
use Rattle.nv_scan.specs.declared.piece.Row.{Row}

-- What is kept is what the entries say that don't stand in the page.
pub record IsReadWithout (R : Region) (s : Super) (row : Row) (created page : ℕ) (fold : Fold) (pages : List ℕ) (fault : Option LogEnd) : Type 0 where
  pub entries : List Placed
  pub reads : Reads R s row.head row.tail entries pages fault
  pub holds : Holds s row.kind row.inode created (without_page page entries) fold

-- The entries that were read so far lead to where the reader is.
pub record IsReadSoFarWithout (R : Region) (row : Row) (created page : ℕ) (reader : Progress) (fold : Fold) : Type 0 where
  pub entries : List Placed
  pub leads : Leads R row.head reader entries
  pub holds : Holds reader.sup row.kind row.inode created (without_page page entries) fold

-- What is kept says the same as the row, and nothing is wrong with an entry.
pub record SaysRow (fold : Fold) (row : Row) : Type 0 where
  pub clean : length fold.faults.items ≡ 0
  pub numbers : fold.numbers ≡ row.numbers
  pub names : (q : List ℕ) → name_at fold.names q ≡ name_at row.names q
  pub blocks : (p : ℕ) → block_by fold.extents p ≡ block_at row.index p

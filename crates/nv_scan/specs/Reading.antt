-- What reading a whole log gives.
use Rattle.std.specs.Prelude.{ℕ, List, Option}
use Rattle.nv_region.specs.Region.{Region}
use Rattle.nv_super.specs.declared.superblock.Super.{Super}
use Rattle.nv_super.specs.declared.kind.Kind.{Kind}
use Rattle.nv_inode.specs.declared.slot.Slot.{Slot}
use Rattle.nv_logpage.specs.declared.found.LogEnd.{LogEnd}
use Rattle.nv_logpage.specs.declared.found.Placed.{Placed}
use Rattle.nv_logpage.specs.Reads.{Reads}
use Rattle.nv_logpage.specs.Progress.{Progress, Leads}
use Rattle.nv_scan.specs.Fold.{Holds}
use Rattle.nv_scan.specs.declared.fold.Fold.{Fold}

-- The pages and the fault are those of the slot's log, and what is kept is what its entries say.
pub record IsRead (R : Region) (s : Super) (i : ℕ) (kind : Kind) (slot : Slot) (fold : Fold) (pages : List ℕ) (fault : Option LogEnd) : Type 0 where
  pub entries : List Placed
  pub reads : Reads R s slot.head slot.tail entries pages fault
  pub holds : Holds s kind i slot.created entries fold

-- The entries that were read so far lead to where the reader is, and what is kept is what they say.
pub record IsReadSoFar (R : Region) (head : ℕ) (kind : Kind) (i created : ℕ) (reader : Progress) (fold : Fold) : Type 0 where
  pub entries : List Placed
  pub leads : Leads R head reader entries
  pub holds : Holds reader.sup kind i created entries fold

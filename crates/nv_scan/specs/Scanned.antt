-- What is put together from a slot and its log.
use Rattle.std.specs.Prelude.{◌≡◌, ℕ, ◌+◌, List, [], ◌++◌, Option, Some, None}
use Rattle.std.specs.List.{cons_option}
use Rattle.nv_region.specs.Region.{Region, word}
use Rattle.nv_super.specs.declared.kind.Kind.{Kind}
use Rattle.nv_super.specs.declared.faults.Fault.{Fault}
use Rattle.nv_super.specs.declared.faults.Fault.TheVariants as faults
use Rattle.nv_inode.specs.declared.slot.Slot.{Slot}
use Rattle.nv_logpage.specs.declared.found.LogEnd.{LogEnd}
use Rattle.nv_logpage.specs.declared.found.LogFault.{LogFault}
use Rattle.nv_logpage.specs.declared.found.LogFault.TheVariants as logs
use Rattle.nv_radix.specs.Pages.{block_at}
use Rattle.nv_radix.specs.Runs.{block_by}
use Rattle.nv_scan.specs.ChainBlocks.{table_claims}
use Rattle.nv_scan.specs.Claims.{AreClaimsBy}
use Rattle.nv_scan.specs.ClaimList.{ClaimList}
use Rattle.nv_scan.specs.declared.chain_block.ChainBlock.{ChainBlock}
use Rattle.nv_scan.specs.declared.fold.Fold.{Fold}
use Rattle.nv_scan.specs.declared.in_use.InUse.{InUse}
use Rattle.nv_scan.specs.declared.piece.Row.{Row}
use Rattle.nv_scan.specs.declared.piece.Piece.{Piece}

-- the fault of an inode whose log ends so
abbrev pub fault_by : ℕ → LogFault → ℕ → Fault
fault_by i logs.L1 at = faults.L1 i at
fault_by i logs.L2 at = faults.L2 i at
fault_by i logs.L3 at = faults.L3 i at
fault_by i logs.L4 at = faults.L4 i at

-- the same of a log that may have ended without a fault
abbrev pub fault_of_end : ℕ → Option LogEnd → Option Fault
fault_of_end i None = None
fault_of_end i (Some e) = Some (fault_by i e.fault e.at)

-- the row of an inode in use, with what its log says, but for the pages
abbrev pub IsRowOf : InUse → Fold → Row → Type 0
IsRowOf used fold row =
    (row.inode ≡ used.inode) × (row.kind ≡ used.kind) × (row.numbers ≡ fold.numbers) × (row.head ≡ used.slot.head) × (row.tail ≡ used.slot.tail) × (row.names ≡ fold.names)

-- A row without pages has them now: those of its log, and those of its file. The claims are those of its inode, behind the block of a chain that is told with it.
pub record IsFilled (table : Option ChainBlock) (pages : List ℕ) (blocks : ℕ → Option ℕ) (old new : Row) (claims : ClaimList) : Type 0 where
  pub same : (new.inode ≡ old.inode) × (new.kind ≡ old.kind) × (new.numbers ≡ old.numbers) × (new.head ≡ old.head) × (new.tail ≡ old.tail) × (new.names ≡ old.names)
  pub pages_are : new.pages.items ≡ pages
  pub index : (p : ℕ) → block_at new.index p ≡ blocks p
  pub claims_are : AreClaimsBy table new.inode pages new.index claims.items

-- the row of a slot in use, with what its log says
abbrev pub row_of : ℕ → Kind → Slot → List ℕ → Fold → Row → Type 0
row_of i kind slot pages fold row =
    (row.inode ≡ i) × (row.kind ≡ kind) × (row.numbers ≡ fold.numbers) × (row.head ≡ slot.head) × (row.tail ≡ slot.tail)
    × (row.pages.items ≡ pages) × ((p : ℕ) → block_at row.index p ≡ block_by fold.extents p) × (row.names ≡ fold.names)

-- a piece of a slot in use: what its log says, and one fault more, if there is one; with the block of a chain, if one is told with it
pub record IsPieceOf (i : ℕ) (table : Option ChainBlock) (kind : Kind) (slot : Slot) (pages : List ℕ) (fold : Fold) (fault : Option Fault) (p : Piece) : Type 0 where
  pub inode : p.inode ≡ i
  pub row : Row
  pub has_row : p.row ≡ Some row
  pub is_row : row_of i kind slot pages fold row
  pub claims : AreClaimsBy table i pages row.index p.claims.items
  pub faults : p.faults.items ≡ fold.faults.items ++ cons_option fault []

-- a piece of a slot that isn't in use: it claims the block of a chain alone, if one is told with it
pub record IsEmptyPiece (i : ℕ) (table : Option ChainBlock) (fault : Option Fault) (p : Piece) : Type 0 where
  pub inode : p.inode ≡ i
  pub row : p.row ≡ None
  pub claims : p.claims.items ≡ table_claims table
  pub faults : p.faults.items ≡ cons_option fault []

-- the slots at an address have the same valid word, kind, head and tail; creation times aren't compared
pub record SameSlot (R R' : Region) (a : ℕ) : Type 0 where
  pub valid : word R' a ≡ word R a
  pub kind : word R' (a + 8) ≡ word R (a + 8)
  pub head : word R' (a + 16) ≡ word R (a + 16)
  pub tail : word R' (a + 24) ≡ word R (a + 24)

-- What is kept of an inode that is scanned.
use Rattle.std.specs.Prelude.{◌≡◌, ℕ, ◌++◌, [], Bool, true, false, Option, Some, None}
use Rattle.std.specs.List.{cons_option}
use Rattle.nv_region.specs.Region.{Region}
use Rattle.nv_super.specs.declared.superblock.Super.{Super}
use Rattle.nv_super.specs.Layout.{Layout, slot_of}
use Rattle.nv_inode.specs.declared.slot.Slot.{Slot}
use Rattle.nv_inode.specs.Slot.{slot_at}
use Rattle.nv_scan.specs.ClaimList.{ClaimList}
use Rattle.nv_scan.specs.ChainBlocks.{TellsTable}
use Rattle.nv_scan.specs.Rows.{IsPiece}
use Rattle.nv_scan.specs.Tickets.{IsFound}
use Rattle.nv_scan.specs.declared.chain_block.ChainBlock.{ChainBlock}
use Rattle.nv_scan.specs.declared.inodes.Inodes.{Inodes}
use Rattle.nv_scan.specs.declared.piece.Piece.{Piece}

-- A piece of which this holds: its row and its faults were put behind the others, and its claims are these.
pub record Keeps (holds : Piece → Type 0) (old new : Inodes) (claims : ClaimList) : Type 0 where
  pub piece : Piece
  pub is : holds piece
  pub rows : new.rows.items ≡ old.rows.items ++ cons_option piece.row []
  pub faults : new.faults.items ≡ old.faults.items ++ piece.faults.items
  pub claims_are : piece.claims ≡ claims

-- The words of the slot of the inode with this number, and the block of a chain that is told with it, by a layout of this
-- superblock.
pub record IsSlotOf (R : Region) (s : Super) (l : Layout) (i : ℕ) (table : Option ChainBlock) (slot : Slot) : Type 0 where
  pub sup : l.sup ≡ s
  pub at : ℕ
  pub stands : slot_of l i ≡ Some at
  pub words : slot ≡ slot_at R at
  pub tells : TellsTable l i table

-- the piece of the inode with this number
abbrev pub IsPieceBy : Region → Layout → ℕ → Piece → Type 0
IsPieceBy R l i p = (p.inode ≡ i) × IsPiece R l p

-- What is found of an inode by its slot is kept, if there is anything to tell of it.
abbrev pub KeepsFound : Region → Layout → ℕ → Inodes → Inodes → ClaimList → Bool → Type 0
KeepsFound R l i old new claims true = Keeps (λ p. IsFound R l i (Some p)) old new claims
KeepsFound R l i old new claims false = IsFound R l i None × (new ≡ old)

-- the same rows and the same faults are kept
abbrev pub SameInodes : Inodes → Inodes → Type 0
SameInodes old new = (new.rows.items ≡ old.rows.items) × (new.faults.items ≡ old.faults.items)

-- The parts that a recovery makes, each by itself, and what they make up.
use Rattle.std.specs.Prelude.{◌≡◌, ℕ, ◌-◌, min, List, [], ◌∷◌, ◌++◌, map, Some}
use Rattle.std.specs.List.{Contains}
use Rattle.std.specs.List.Sorted.{IsPermutation}
use Rattle.nv_blockset.specs.BlockSet.{has}
use Rattle.nv_region.specs.Region.{Region}
use Rattle.nv_super.specs.declared.superblock.Super.{Super}
use Rattle.nv_super.specs.declared.owners.Owner.{Owner}
use Rattle.nv_super.specs.declared.faults.Fault.{Fault}
use Rattle.nv_super.specs.declared.faults.Fault.TheVariants as faults
use Rattle.nv_super.specs.Layout.{Layout, slot_of}
use Rattle.nv_super.specs.Order.{fault_key, Lists, Rises, SortedOf}
use Rattle.nv_super.specs.Owners.{claims_of}
use Rattle.nv_inode.specs.Chains.{chain_faults, layout_of}
use Rattle.nv_journal.specs.Undo.{undone}
use Rattle.nv_journal.specs.Faults.{HasFault}
use Rattle.nv_alloc.specs.FreeValue.{FreeLists}
use Rattle.nv_alloc.specs.FreeLists.{AreOutside}
use Rattle.nv_scan.specs.Rows.{IsPiece}
use Rattle.nv_scan.specs.Work.{claims_in}
pub use Rattle.nv_scan.specs.Work.{rows_in, faults_in}
use Rattle.nv_scan.specs.declared.piece.Piece.{Piece}
use Rattle.nv_cross_check.specs.Cross.{IsCrossFaultIn}
use Rattle.nv_cross_check.specs.Doubled.{AreDoubled}

-- by inode
abbrev pub piece_key : Piece → List ℕ
piece_key p = p.inode ∷ []

-- One piece for each inode number, rising.
pub record ArePieces (R : Region) (l : Layout) (pieces : List Piece) : Type 0 where
  pub rising : Rises piece_key pieces
  pub each : (p : Piece) → Contains pieces p → IsPiece R l p
  pub all : (i a : ℕ) → slot_of l i ≡ Some a → (p : Piece) × Contains pieces p × (p.inode ≡ i)

-- the fault of a claim whose block is doubled
abbrev pub double_fault : ℕ × Owner → Fault
double_fault x = faults.B1 x.0 x.1

-- The two sets of blocks of these claims: those claimed, and those claimed twice or more.
pub record AreMaps (claims : List (ℕ × Owner)) (first second : List ℕ) : Type 0 where
  pub once : (b : ℕ) → has first b ≡ min 1 (claims_of b claims)
  pub twice : (b : ℕ) → has second b ≡ min 1 (claims_of b claims - 1)

-- All parts of a recovery of a region: the pieces of its inodes; their claims, in any order, and the sets of blocks claimed; the
-- free blocks; the claims of doubled blocks; the faults of its journals and those between its inodes; and all faults, those of its
-- chains too.
pub record AreParts (R : Region) (s : Super) (pieces : List Piece) (claims : List (ℕ × Owner)) (first second : List ℕ)
    (free : FreeLists) (doubled : List (ℕ × Owner)) (journal cross found : List Fault) : Type 0 where
  pub scanned : ArePieces (undone s R) (layout_of s (undone s R)) pieces
  pub claimed : IsPermutation (claims_in pieces) claims
  pub maps : AreMaps claims first second
  pub outside : AreOutside first s free
  pub owned_twice : AreDoubled claims second doubled
  pub in_journals : Lists fault_key (HasFault s R) journal
  pub between : Lists fault_key (IsCrossFaultIn (rows_in pieces)) cross
  pub all : SortedOf fault_key (journal ++ (chain_faults s (undone s R) ++ (faults_in pieces ++ (cross ++ map double_fault doubled)))) found

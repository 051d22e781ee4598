-- A file whose bytes are read from its blocks as they are written.
use Rattle.std.specs.Prelude.{◌≡◌, ◌≤◌, ◌+◌, ◌*◌, ℕ, Bool, true, false, List, Option, Some}
use Rattle.std.specs.List.{Contains}
use Rattle.nv_region.specs.Region.{Region, region_of}
use Rattle.nv_metadata.specs.Memory.{MetadataState}
use Rattle.nv_radix.specs.Pages.{block_at}
use Rattle.nv_mounted.specs.Bytes.{byte_in}
use Rattle.nv_bytes.specs.Bytes.{file_byte, LieInside}
use Rattle.nv_scan.specs.declared.piece.Row.{Row}
use Rattle.nv_tree.specs.Tree.{Tree, Node}
use Rattle.nv_tree.specs.Refusals.{Path}
use Rattle.nv_paths.specs.Seen.{LeadsTo}
use Rattle.nv_image_check.specs.declared.gathered.BlocksError.{BlocksError}
use Rattle.nv_image_check.specs.declared.gathered.BlocksError.TheVariants.{Read, Answer}
use Rattle.nv_looks.specs.Sent.{Written}
use Rattle.nv_looks.specs.Looking.{FailsFile, FailsCall}

-- the blocks of each row's file lie in the second region, and have the same bytes there
pub record AreShownAs (R S : Region) (rows : List Row) : Type 0 where
  pub inside : (row : Row) → Contains rows row → LieInside S row.index
  pub same : (row : Row) (p b x : ℕ) → Contains rows row → block_at row.index p ≡ Some b → byte_in R (Some b) x ≡ byte_in S (Some b) x

-- The front of the memory has the blocks of each row's file, with the bytes that they have in the region.
pub record AreHeldIn (memory : MetadataState) (R : Region) (rows : List Row) : Type 0 where
  pub inside : (row : Row) (p b : ℕ) → Contains rows row → block_at row.index p ≡ Some b → b * 4096 + 4096 ≤ memory.memory.front
  pub same : (row : Row) (p b x : ℕ) → Contains rows row → block_at row.index p ≡ Some b → byte_in R (Some b) x ≡ byte_in memory.memory.region (Some b) x

-- The bytes of the rows' files in a region are those that are read: from the memory's front, or from bytes that are known.
abbrev pub AreReadFrom : Bool → Option (List ℕ) → MetadataState → Region → List Row → Type 0
AreReadFrom true known memory R rows = AreHeldIn memory R rows
AreReadFrom false known memory R rows = (image : List ℕ) × (known ≡ Some image) × AreShownAs R (region_of image) rows

-- The path leads to the row's file, whose blocks lie in the region and have its bytes there.
pub record IsFileOf (S : Region) (row : Row) (t : Tree) (names : List (List ℕ)) : Type 0 where
  pub inode : ℕ
  pub node : Node
  pub leads : LeadsTo t names inode node
  pub size : node.size ≡ row.numbers.size
  pub inside : LieInside S row.index
  pub bytes : (x : ℕ) → node.bytes x ≡ file_byte S row.index x

-- what an error leaves of the bytes of the file; a reader of bytes that are known doesn't fail
abbrev pub FailsBlocksFile : Tree → List (List ℕ) → BlocksError → Option (List ℕ) → Option (List ℕ) → Type 0
FailsBlocksFile t names (Read error) old new = ⊥
FailsBlocksFile t names (Answer error) old new = FailsFile t names error old new

-- the same of a call that may be refused
abbrev pub FailsBlocksCall : Tree → Path → BlocksError → Written → Written → Type 0
FailsBlocksCall t p (Read error) old new = ⊥
FailsBlocksCall t p (Answer error) old new = FailsCall t p error old new

-- What rows show over the bytes of a reader.
use Rattle.std.specs.Prelude.{ℕ, ◌≤◌, List, [], Option, Some, None}
use Rattle.std.specs.List.{Contains}
use Rattle.nv_region.specs.Region.{region_of}
use Rattle.nv_bytes.specs.Bytes.{LieInside}
use Rattle.nv_pages.specs.Blocks.{AreRegionBlocks}
use Rattle.nv_scan.specs.declared.piece.Row.{Row}
use Rattle.nv_super.specs.Layout.{most_size}
use Rattle.nv_tree.specs.Tree.{Tree}
use Rattle.nv_paths.specs.Seen.{tree_of}

-- the bytes, or none where they aren't known
abbrev pub bytes_or_none : Option (List ℕ) → List ℕ
bytes_or_none None = []
bytes_or_none (Some bytes) = bytes

-- the tree that rows show over bytes that may be known
abbrev pub shown_tree : Option (List ℕ) → List Row → Tree
shown_tree known rows = tree_of (region_of (bytes_or_none known)) rows

-- the bytes are known, and the blocks of each row's file lie in them
abbrev pub AreKnown : Option (List ℕ) → List Row → Type 0
AreKnown None rows = ⊥
AreKnown (Some bytes) rows = (row : Row) → Contains rows row → LieInside (region_of bytes) row.index

-- the blocks of a row's file are blocks that a region may have, and it has no more bytes than a file can have
pub record IsSmallRow (row : Row) : Type 0 where
  pub size : row.numbers.size ≤ most_size
  pub blocks : AreRegionBlocks row.index

-- the same of each row
abbrev pub AreSmallRows : List Row → Type 0
AreSmallRows rows = (row : Row) → Contains rows row → IsSmallRow row

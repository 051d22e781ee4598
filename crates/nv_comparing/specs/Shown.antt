-- Rows over a memory.
use Rattle.std.specs.Prelude.{◌≤◌, List}
use Rattle.std.specs.List.{Contains}
use Rattle.nv_region.specs.Region.{Region}
use Rattle.nv_bytes.specs.Bytes.{LieInside}
use Rattle.nv_scan.specs.declared.piece.Row.{Row}
use Rattle.nv_super.specs.Layout.{most_size}

-- The blocks of a row's file lie in the region, and it has no more bytes than a file can have.
pub record IsHeld (R : Region) (row : Row) : Type 0 where
  pub inside : LieInside R row.index
  pub size : row.numbers.size ≤ most_size

-- the same of each row
abbrev pub AreHeld : Region → List Row → Type 0
AreHeld R rows = (row : Row) → Contains rows row → IsHeld R row

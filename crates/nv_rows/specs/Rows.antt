-- Rows by their numbers: which row an inode has, where it stands, and what a list is with a further row.
use Rattle.std.specs.Prelude.{◌≡◌, ℕ, zero, suc, ◌≤◌, cond, nat_eq, IsTrue, List, [], ◌∷◌, map, length, Option, Some, is_some, set, slice_get}
use Rattle.std.specs.List.{find, insert}
use Rattle.nv_super.specs.Order.{Rises}
pub use Rattle.nv_scan.specs.Rows.{row_key}
use Rattle.nv_scan.specs.declared.piece.Row.{Row}

-- the numbers of rows
abbrev pub inodes_of : List Row → List ℕ
inodes_of rows = map (λ (r : Row). r.inode) rows

-- the row of a number
abbrev pub row_of : List Row → ℕ → Option Row
row_of rows i = find (λ (r : Row). nat_eq r.inode i) rows

-- the inode is in use
abbrev pub IsInUse : List Row → ℕ → Type 0
IsInUse rows i = IsTrue (is_some (row_of rows i))

-- where the row of an inode stands: so many rows are in front of it
abbrev pub place_in : List Row → ℕ → ℕ
place_in [] i = zero
place_in (row ∷ rows) i = cond (nat_eq row.inode i) zero (suc (place_in rows i))

-- the row of a number stands here
abbrev pub IsPlaceOf : List Row → ℕ → ℕ → Type 0
IsPlaceOf rows i place = (row : Row) × (slice_get rows place ≡ Some row) × (row.inode ≡ i)

-- A row was put in at its place among rows that rise.
pub record HasInserted (old new : List Row) (row : Row) : Type 0 where
  pub place : ℕ
  pub inside : place ≤ length old
  pub all : new ≡ insert old place row
  pub rising : Rises row_key new

-- The row of an inode was taken out, and one that says nothing stands in its place.
pub record IsLent (old new : List Row) (i : ℕ) : Type 0 where
  pub blank : Row
  pub number : blank.inode ≡ i
  pub all : new ≡ set old (place_in old i) blank

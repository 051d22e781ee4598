-- What is known of the rows where a step of names is made, by the numbers of the inodes that it is on.
use Rattle.std.specs.Prelude.{◌≡◌, ◌≢◌, ℕ, ◌<◌, IsTrue, List, Some}
use Rattle.nv_region.specs.Region.{Region}
use Rattle.nv_super.specs.Layout.{Layout}
use Rattle.nv_alloc.specs.FreeValue.{FreeLists}
use Rattle.nv_inode.specs.Numbers.{has_slot}
use Rattle.nv_names.specs.Names.{IsName}
use Rattle.nv_scan.specs.declared.piece.Row.{Row}
use Rattle.nv_rows.specs.Rows.{IsInUse, row_of}
use Rattle.nv_steps.specs.Grown.{StandsRight}
use Rattle.nv_steps.specs.LessNames.{OwnsBlocks}
use Rattle.nv_steps.specs.NewNames.{CanName}

-- The row of an inode is as its log says, and the CPU can commit it.
abbrev pub Stands : Region → Layout → FreeLists → ℕ → List Row → ℕ → Type 0
Stands R l free cpu rows i = (row : Row) → row_of rows i ≡ Some row → StandsRight R l free row × CanName R l cpu row.inode row

-- The blocks of an inode's row are its own.
abbrev pub Owns : FreeLists → List Row → ℕ → Type 0
Owns free rows i = (row : Row) → row_of rows i ≡ Some row → OwnsBlocks free row

-- A name of a file that has others can go from a directory.
pub record CanUnlinkAt (R : Region) (l : Layout) (free : FreeLists) (cpu : ℕ) (rows : List Row) (d i : ℕ) (n : List ℕ) : Type 0 where
  pub directory : IsInUse rows d
  pub target : IsInUse rows i
  pub apart : d ≢ i
  pub more : (file : Row) → row_of rows i ≡ Some file → 1 < file.numbers.links
  pub stands : Stands R l free cpu rows d
  pub file_stands : Stands R l free cpu rows i
  pub name : IsName n

-- An inode can go from a directory, with its name and its blocks.
pub record CanTakeAt (R : Region) (l : Layout) (free : FreeLists) (cpu : ℕ) (rows : List Row) (d i : ℕ) (n : List ℕ) : Type 0 where
  pub directory : IsInUse rows d
  pub target : IsInUse rows i
  pub stands : (row : Row) → row_of rows d ≡ Some row → StandsRight R l free row
  pub can : (row gone : Row) → row_of rows d ≡ Some row → row_of rows i ≡ Some gone → CanName R l cpu gone.inode row × (row.inode ≢ gone.inode)
  pub owns : Owns free rows i
  pub name : IsName n

-- A name of a file can go from a directory, and the file with it where it has no other.
pub record CanReleaseAt (R : Region) (l : Layout) (free : FreeLists) (cpu : ℕ) (rows : List Row) (d i : ℕ) (n : List ℕ) : Type 0 where
  pub directory : IsInUse rows d
  pub target : IsInUse rows i
  pub apart : d ≢ i
  pub stands : Stands R l free cpu rows d
  pub file_stands : Stands R l free cpu rows i
  pub can : (row file : Row) → row_of rows d ≡ Some row → row_of rows i ≡ Some file → CanName R l cpu file.inode row × (row.inode ≢ file.inode)
  pub owns : Owns free rows i
  pub name : IsName n

-- The same where its inode gets the name of another in its place.
pub record CanReplaceHere (R : Region) (l : Layout) (free : FreeLists) (cpu : ℕ) (rows : List Row) (d i : ℕ) (n o : List ℕ) : Type 0 where
  pub release : CanReleaseAt R l free cpu rows d i n
  pub open release use *
  pub other : IsName o

-- A name can go from one directory, and another be given in one.
pub record CanMove (R : Region) (l : Layout) (free : FreeLists) (cpu : ℕ) (rows : List Row) (d e : ℕ) (n o : List ℕ) : Type 0 where
  pub from : IsInUse rows d
  pub directory : IsInUse rows e
  pub stands : Stands R l free cpu rows d
  pub to_stands : Stands R l free cpu rows e
  pub name : IsName n
  pub other : IsName o

-- The same for an inode in use, in two directories.
pub record CanMoveAcross (R : Region) (l : Layout) (free : FreeLists) (cpu : ℕ) (rows : List Row) (i d e : ℕ) (n o : List ℕ) : Type 0 where
  pub move : CanMove R l free cpu rows d e n o
  pub open move use *
  pub target : IsInUse rows i
  pub apart : d ≢ e

-- The same where the file that loses the other name is in neither directory's place, and keeps further names.
pub record CanLessenOver (R : Region) (l : Layout) (free : FreeLists) (cpu : ℕ) (rows : List Row) (d e j : ℕ) (n o : List ℕ) : Type 0 where
  pub move : CanMove R l free cpu rows d e n o
  pub open move use *
  pub there : IsInUse rows j
  pub apart : (d ≢ e) × (d ≢ j) × (e ≢ j)
  pub file_stands : Stands R l free cpu rows j
  pub more : (file : Row) → row_of rows j ≡ Some file → 1 < file.numbers.links

-- The same where the inode that loses the other name goes with it.
pub record CanTakeOver (R : Region) (l : Layout) (free : FreeLists) (cpu : ℕ) (rows : List Row) (d e j : ℕ) (n o : List ℕ) : Type 0 where
  pub move : CanMove R l free cpu rows d e n o
  pub open move use *
  pub there : IsInUse rows j
  pub apart : (d ≢ e) × (d ≢ j) × (e ≢ j)
  pub number : IsTrue (has_slot l j)
  pub owns : Owns free rows j

-- The same where either may be.
pub record CanReplaceOver (R : Region) (l : Layout) (free : FreeLists) (cpu : ℕ) (rows : List Row) (d e j : ℕ) (n o : List ℕ) : Type 0 where
  pub take : CanTakeOver R l free cpu rows d e j n o
  pub open take use *
  pub there_stands : Stands R l free cpu rows j

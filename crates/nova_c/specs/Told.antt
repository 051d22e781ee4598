-- What the calls that read tell C.
use Rattle.std.specs.Prelude.{◌≡◌, ◌++◌, ◌<◌, ℕ, zero, suc, List, [], Option, Some, None, drop, length}
use Rattle.std.specs.List.{flat_map}
use Rattle.byteorder.specs.Endian.{little_bytes}
use Rattle.nv_region.specs.Region.{Region}
use Rattle.nv_super.specs.declared.kind.Kind.{Kind}
use Rattle.nv_super.specs.declared.kind.Kind.TheVariants as kinds
use Rattle.nv_tree.specs.Tree.{Tree}
use Rattle.nv_tree.specs.declared.stat.Stat.{Stat}
use Rattle.nv_calls.specs.ByNumber.{IsInodeStat, ListsInode}
use Rattle.nv_calls.specs.Listing.{ListsNamesIn}
use Rattle.nv_calls.specs.NamesByNumber.{IsStatNamed}
use Rattle.nv_tree.specs.Stat.{IsStat}
use Rattle.nv_calls.specs.Mount.{Mount, told as outcome_told}
use Rattle.nv_report.specs.Texts.{IsPartText}
use Rattle.nv_report.specs.declared.part.Part.TheVariants.{Report}
use Rattle.nv_alloc.specs.Taking.{all_blocks}
use Rattle.nova_c.specs.declared.numbers.NovaNumbers.{NovaNumbers}
use Rattle.nova_c.specs.declared.numbers.NovaSpace.{NovaSpace}
use Rattle.nova_c.specs.declared.cleaning.NovaCleaned.{NovaCleaned}

-- how a kind crosses
abbrev pub kind_word : Kind → ℕ
kind_word kinds.Directory = 1
kind_word kinds.File = 0

-- an inode's numbers as they cross
abbrev pub told : Stat → NovaNumbers
told s = record { inode = s.inode; size = s.size; time = s.time; is_directory = kind_word s.kind; mode = s.mode; owner = s.owner; group = s.group; links = s.links }

-- The path leads to an inode, and these are its numbers.
pub record TellsNumbers (t : Tree) (names : List (List ℕ)) (n : NovaNumbers) : Type 0 where
  pub stat : Stat
  pub is : IsStat t names stat
  pub crosses : n ≡ told stat

-- These are the numbers of the inode of this number.
pub record TellsInodeNumbers (t : Tree) (i : ℕ) (n : NovaNumbers) : Type 0 where
  pub stat : Stat
  pub is : IsInodeStat t i stat
  pub crosses : n ≡ told stat

-- These are the numbers of the inode that a name of the directory of this number stands for.
pub record TellsNamedNumbers (t : Tree) (d : ℕ) (name : List ℕ) (n : NovaNumbers) : Type 0 where
  pub stat : Stat
  pub is : IsStatNamed t d name stat
  pub crosses : n ≡ told stat

-- How much there is of what in a mount.
pub record TellsSpace {P : Type 0} (m : Mount P) (s : NovaSpace) : Type 0 where
  pub blocks : s.blocks ≡ m.sup.blocks
  pub free : s.free_blocks ≡ all_blocks m.free.pools
  pub cpus : s.cpus ≡ m.sup.cpus
  pub tables : s.table_blocks ≡ m.sup.table_blocks
  pub inodes : s.inodes ≡ length m.rows
  pub faults : s.faults ≡ length m.faults

-- ---- bytes in a buffer

-- These bytes stand at the front of a buffer, whose rest is as before. The count is theirs.
pub record PutsBytes (bytes old : List ℕ) (count : ℕ) (new : List ℕ) : Type 0 where
  pub counts : count ≡ length bytes
  pub puts : new ≡ bytes ++ drop count old

-- These bytes don't fit into a buffer, which is as before. The count is theirs.
pub record LacksRoom (bytes old : List ℕ) (count : ℕ) (new : List ℕ) : Type 0 where
  pub counts : count ≡ length bytes
  pub too_many : length old < count
  pub same : new ≡ old

-- ---- names

-- a name as it crosses: its inode and its length, 8 bytes each with the lowest first, and its bytes
unfoldable pub line_bytes : List ℕ × ℕ → List ℕ
line_bytes line = little_bytes 8 line.1 ++ little_bytes 8 (length line.0) ++ line.0

-- names as they cross
abbrev pub names_bytes : List (List ℕ × ℕ) → List ℕ
names_bytes lines = flat_map line_bytes lines

-- The path leads to a directory, and its names, rising, give these bytes, of which P holds.
pub record TellsNames (t : Tree) (names : List (List ℕ)) (P : List ℕ → Type 0) : Type 0 where
  pub lines : List (List ℕ × ℕ)
  pub lists : ListsNamesIn t names lines
  pub crosses : P (names_bytes lines)

-- The names of the inode of this number, rising, give these bytes, of which P holds.
pub record TellsInodeNames (t : Tree) (i : ℕ) (P : List ℕ → Type 0) : Type 0 where
  pub lines : List (List ℕ × ℕ)
  pub lists : ListsInode t i lines
  pub crosses : P (names_bytes lines)

-- ---- the report

-- The report of a mount has these bytes, of which P holds.
pub record TellsReport (m : Mount Region) (P : List ℕ → Type 0) : Type 0 where
  pub text : List ℕ
  pub is : IsPartText Report (outcome_told m.layout m.rows m.free [] m.faults) text
  pub crosses : P text

-- ---- a cleaning

-- a block, where a word isn't 0
abbrev pub block_if : ℕ → ℕ → Option ℕ
block_if zero block = None
block_if (suc n) block = Some block

-- the block that went, if one did
abbrev pub gone : NovaCleaned → Option ℕ
gone c = block_if c.has_freed c.block

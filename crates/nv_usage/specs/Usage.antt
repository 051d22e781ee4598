-- How many blocks are taken by all that an inode holds.
use Rattle.std.specs.Prelude.{◌≡◌, ℕ, ◌+◌, ◌==◌, false, MatchBool, List, length, map, sum, Some, slice_get, ◌++◌, codes, decimal}
use Rattle.nv_radix.specs.Extents.{AreExtents}
use Rattle.nv_radix.specs.declared.extent.Extent.{Extent}
use Rattle.nv_rows.specs.Rows.{IsInUse, row_of}
use Rattle.nv_scan.specs.declared.piece.Row.{Row}
use Rattle.nv_members.specs.Members.{AreMembers}
use Rattle.nv_members.specs.declared.member.Member.{Member}
use Rattle.nv_text.specs.Answers.{line}
use Rattle.nv_usage.specs.Named.{names_tree}

-- how many blocks some extents have
abbrev pub blocks_in : List Extent → ℕ
blocks_in extents = sum (map (λ (x : Extent). x.count) extents)

-- how many blocks the inode of a row takes: the pages of its log, and those of its file
abbrev pub IsRowBlocks : Row → ℕ → Type 0
IsRowBlocks row n = (extents : List Extent) × AreExtents row.index extents × (n ≡ length row.pages.items + blocks_in extents)

-- those of a row are added to a count
abbrev pub IsAdded : Row → ℕ → ℕ → Type 0
IsAdded row old new = (n : ℕ) × IsRowBlocks row n × (new ≡ old + n)

-- the blocks of an inode are counted at its first member, and nowhere else
abbrev pub Counts : List Row → ℕ → Member → ℕ → ℕ → Type 0
Counts rows k m old new = MatchBool (m.first == k) ((row : Row) × (row_of rows m.inode ≡ Some row) × IsAdded row old new) (new ≡ old)

-- What the members in front of a place take.
pub data IsCount (rows : List Row) (members : List Member) : ℕ → ℕ → Type 0 where
  none : IsCount rows members 0 0
  more : {k old new : ℕ} (m : Member) → slice_get members k ≡ Some m → IsCount rows members k old → Counts rows k m old new → IsCount rows members (k + 1) new

-- what all takes that an inode leads to by names, each inode once
abbrev pub IsUsage : List Row → ℕ → ℕ → Type 0
IsUsage rows i n = (members : List Member) × AreMembers (names_tree rows) i false members × IsCount rows members (length members) n

-- the inodes of the members are in use
abbrev pub AreUsed : List Row → List Member → Type 0
AreUsed rows members = (k : ℕ) (m : Member) → slice_get members k ≡ Some m → IsInUse rows m.inode

-- the line of a count
abbrev pub usage_line : ℕ → List ℕ
usage_line n = line (codes "blocks " ++ decimal n)

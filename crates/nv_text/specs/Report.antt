-- The lines of a report on a region and its inodes.
use Rattle.std.specs.Prelude.{ℕ, List, ◌++◌, flat_map, codes, decimal}
use Rattle.nv_super.specs.declared.superblock.Super.{Super}
use Rattle.nv_text.specs.Answers.{line}
use Rattle.nv_tree.specs.declared.stat.Stat.{Stat}
use Rattle.nv_super.specs.Kind.{kind_word}

-- the numbers of a superblock
abbrev pub region_line : Super → List ℕ
region_line s = line (codes "region version " ++ decimal s.version ++ codes " cpus " ++ decimal s.cpus ++ codes " blocks " ++ decimal s.blocks ++ codes " tables " ++ decimal s.table_blocks
    ++ codes " state " ++ decimal s.state)

-- what an inode is, and whose
abbrev pub inode_head : Stat → List ℕ
inode_head a = codes "inode " ++ decimal a.inode ++ codes " " ++ kind_word a.kind ++ codes " mode " ++ decimal a.mode ++ codes " owner " ++ decimal a.owner ++ codes " group " ++ decimal a.group

-- how large it is, how often named, and when changed
abbrev pub inode_tail : Stat → List ℕ
inode_tail a = line (codes " size " ++ decimal a.size ++ codes " links " ++ decimal a.links ++ codes " time " ++ decimal a.time)

-- the first line of an inode
abbrev pub inode_line : Stat → List ℕ
inode_line a = inode_head a ++ inode_tail a

-- the same, as a command's answer
abbrev pub stat_line : Stat → List ℕ
stat_line a = codes "stat " ++ inode_line a

-- the blocks of the pages of an inode's log, and its tail word
abbrev pub log_line : List ℕ → ℕ → List ℕ
log_line pages tail = codes "  log" ++ flat_map (λ page. codes " " ++ decimal page) pages ++ line (codes " tail " ++ decimal tail)

-- an extent of a file: its first page, the number of its pages, and the block of the first
abbrev pub page_line : ℕ → ℕ → ℕ → List ℕ
page_line page count block = line (codes "  page " ++ decimal page ++ codes " " ++ decimal count ++ codes " " ++ decimal block)

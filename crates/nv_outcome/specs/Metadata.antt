-- The words that the outcome of a region is read from.
use Rattle.std.specs.Prelude.{◌≡◌, ℕ, ◌+◌, ◌*◌, ◌/◌, ◌%◌, length, true}
use Rattle.std.specs.List.{Contains}
use Rattle.nv_region.specs.Region.{Region, word}
use Rattle.nv_super.specs.declared.superblock.Super.{Super}
use Rattle.nv_super.specs.Layout.{system_blocks}
use Rattle.nv_inode.specs.Chains.{in_chains, layout_of}
use Rattle.nv_journal.specs.Undo.{undone}
use Rattle.nv_journal.specs.Undone.{SameBefore}
use Rattle.nv_logpage.specs.ToTail.{SameToTail}
use Rattle.nv_scan.specs.Inode.{Log, IsInode}

-- The regions are of one length, and have the same words in front of the data blocks, in each block of a table's chain, and in each
-- page of each log, as the inodes in use have them once the journals are rolled back. A log's last page is looked at no further than
-- the tail: up to where an entry ends at most that begins before it.
pub record SameMetadata (s : Super) (R S : Region) : Type 0 where
  pub as_long : length S.words ≡ length R.words
  pub rest_as_long : length S.rest ≡ length R.rest
  pub front : SameBefore (4096 * system_blocks s) R S
  pub chains : (at : ℕ) → at % 8 ≡ 0 → in_chains (layout_of s R).chains (at / 4096) ≡ true → word S at ≡ word R at
  pub pages : (i a : ℕ) (log : Log) (b : ℕ) → IsInode (undone s R) (layout_of s (undone s R)) i a log → Contains log.pages b → SameToTail (word (undone s R) (a + 24)) R S b

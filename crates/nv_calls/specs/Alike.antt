-- Regions that nobody can tell apart, but by words that no definition reads; and calls that leave such regions of such.
use Rattle.std.specs.Prelude.{◌≡◌, ℕ, ◌+◌, ◌<◌, ⊤, List, Some, None}
use Rattle.nv_region.specs.Region.{Region}
use Rattle.nv_super.specs.declared.kind.Kind.{Kind}
use Rattle.nv_super.specs.declared.owners.Run.{Run}
use Rattle.nv_super.specs.Layout.{Layout}
use Rattle.nv_scan.specs.State.{size_of}
use Rattle.nv_scan.specs.declared.piece.Row.{Row}
use Rattle.nv_outcome.specs.Outcome.{IsOutcome}
use Rattle.nv_mounted.specs.Held.{Held, Store, good_in}
use Rattle.nv_mounted.specs.Bytes.{byte_of}
use Rattle.nv_mounted.specs.Mounted.{ShowsSound, faultless_outcome}
use Rattle.nv_tree.specs.Tree.{SameTree}
use Rattle.nv_tree.specs.Refusals.{Path, Tests, first_refusal, create_tests, link_tests, rename_tests, rmdir_tests, set_attr_tests, set_size_tests, unlink_tests, write_tests}
use Rattle.nv_tree.specs.Replace.{replace_tests}
use Rattle.nv_paths.specs.Seen.{tree_of}
use Rattle.nv_calls.specs.Effects.{Logs, LogsBytes, LogsUnlink, Makes, logs_attributes, logs_inode, logs_link, logs_removal, logs_rename, logs_replace, logs_size}
use Rattle.nv_calls.specs.Effects.{makes_attributes, makes_bytes, makes_inode, makes_link, makes_removal, makes_rename, makes_replace, makes_size, makes_unlink}
use Rattle.nv_calls.specs.Mount.{Mount}
use Rattle.nv_calls.specs.World.{world_of}

-- each file that is held has the same bytes in both regions
abbrev pub SameBytes : Layout → Store → Region → Region → Type 0
SameBytes l held R S = (i x : ℕ) (h : Held) → held i ≡ Some h → x < size_of (good_in l h) → byte_of S l h x ≡ byte_of R l h x

-- Both regions show this, with nothing wrong and nothing pending, and the same bytes of each file.
pub record ShowAlike (l : Layout) (held : Store) (R S : Region) : Type 0 where
  pub first : ShowsSound R l held
  pub second : ShowsSound S l held
  pub bytes : SameBytes l held R S

-- Two regions are alike: they have one superblock, and show the same inodes with the same logs, and the same bytes of each file.
-- Nothing is wrong in them, and nothing is pending. They may differ in words that no definition reads: of free blocks and unused
-- slots, behind the tails of logs, behind a file's size, in the records of journals, and in what else of a block means nothing.
abbrev pub AreAlike : Region → Region → Type 0
AreAlike R S = ∥ ((l : Layout) × (held : Store) × ShowAlike l held R S) ∥₁

-- ---- calls

-- what is mounted is the region's outcome, which has no fault
abbrev pub IsFaultlessMount : Region → Mount ⊤ → Type 0
IsFaultlessMount R m = IsOutcome R (faultless_outcome m.layout m.rows m.free.pools)

-- A call was done, by the names of a path: the region that it leaves has an outcome without faults, by whatever tables, which shows
-- the tree that the call makes, and its logs are those that the call leaves.
pub record WasDone (makes : Makes ⊤) (logs : Logs ⊤) (R : Region) (m : Mount ⊤) (names : List (List ℕ)) (T : Region) : Type 0 where
  pub layout : Layout
  pub rows : List Row
  pub free : List (List Run)
  pub shown : IsOutcome T (faultless_outcome layout rows free)
  pub tree : SameTree (tree_of T rows) (makes R m names)
  pub left : logs R m names T

-- no test refuses the call that is asked so of a mounted region, whatever the number of blocks is that it needs
abbrev pub IsAllowed : (Region → Mount ⊤ → Path → ℕ → Tests) → Region → Mount ⊤ → List (List ℕ) → Type 0
IsAllowed tests R m names = (needed : ℕ) × (first_refusal (tests R m (Some names) needed) ≡ None)

-- Of alike regions the call leaves alike regions, where no test refuses it.
abbrev pub KeepsAlike : (Region → Mount ⊤ → Path → ℕ → Tests) → Makes ⊤ → Logs ⊤ → Type 0
KeepsAlike tests makes logs = (R S T U : Region) (m k : Mount ⊤) (names : List (List ℕ)) → AreAlike R S → IsFaultlessMount R m → IsFaultlessMount S k → IsAllowed tests R m names
    → WasDone makes logs R m names T → WasDone makes logs S k names U → AreAlike T U

-- Of alike regions each call that changes names leaves alike regions.
pub record NameCallsKeepAlike : Type 0 where
  pub create : (kind : Kind) (cpu mode time : ℕ) → KeepsAlike (λ R m p n. create_tests (world_of m) (tree_of R m.rows) cpu p n) (makes_inode kind cpu mode time) (logs_inode kind cpu mode time)
  pub link : (cpu time : ℕ) (q : Path) → KeepsAlike (λ R m p n. link_tests (world_of m) (tree_of R m.rows) cpu p q n) (makes_link time q) (logs_link cpu time q)
  pub unlink : (cpu time : ℕ) → KeepsAlike (λ R m p n. unlink_tests (world_of m) (tree_of R m.rows) cpu p n) (makes_unlink time) (LogsUnlink cpu time)
  pub rmdir : (cpu time : ℕ) → KeepsAlike (λ R m p n. rmdir_tests (world_of m) (tree_of R m.rows) cpu p n) (makes_removal time) (logs_removal cpu time)
  pub rename : (cpu time : ℕ) (q : Path) → KeepsAlike (λ R m p n. rename_tests (world_of m) (tree_of R m.rows) cpu p q n) (makes_rename time q) (logs_rename cpu time q)
  pub replace : (cpu time : ℕ) (q : Path) → KeepsAlike (λ R m p n. replace_tests (world_of m) (tree_of R m.rows) cpu p q n) (makes_replace time q) (logs_replace cpu time q)

-- So does each that changes the bytes, the size or the attributes of an inode.
pub record InodeCallsKeepAlike : Type 0 where
  pub write : (cpu offset count : ℕ) (bytes : List ℕ) (time : ℕ)
      → KeepsAlike (λ R m p n. write_tests (world_of m) (tree_of R m.rows) cpu p (offset + count) n) (makes_bytes offset bytes time) (LogsBytes cpu offset count time)
  pub set_size : (cpu bytes time : ℕ) → KeepsAlike (λ R m p n. set_size_tests (world_of m) (tree_of R m.rows) cpu p bytes n) (makes_size bytes time) (logs_size cpu bytes time)
  pub set_attr : (cpu mode owner group time : ℕ)
      → KeepsAlike (λ R m p n. set_attr_tests (world_of m) (tree_of R m.rows) cpu p n) (makes_attributes mode owner group time) (logs_attributes cpu mode owner group time)

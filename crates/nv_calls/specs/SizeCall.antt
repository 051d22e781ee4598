-- How many blocks `set_size` takes, and what it leaves of the log.
use Rattle.std.specs.Prelude.{◌≡◌, ℕ, is_some, List, Option, Some}
use Rattle.std.specs.Option.{option_map_or, option_and_then}
use Rattle.nv_region.specs.Region.{Region}
use Rattle.nv_super.specs.Layout.{Layout}
use Rattle.nv_super.specs.declared.owners.Run.{Run}
use Rattle.nv_radix.specs.Pages.{block_at}
use Rattle.nv_alloc.specs.Taking.{TakesSingly}
use Rattle.nv_scan.specs.State.{block_of}
use Rattle.nv_scan.specs.declared.piece.Row.{Row}
use Rattle.nv_mounted.specs.Held.{Held, Store, good_in}
use Rattle.nv_mounted.specs.Blocks.{IsUnowned}
use Rattle.nv_graph.specs.Read.{row_of}
use Rattle.nv_tree.specs.Tree.{Node, Tree}
use Rattle.nv_tree.specs.Refusals.{Path, target}
use Rattle.nv_calls.specs.GrownLogs.{LogGrew}
use Rattle.nv_steps.specs.Sizes.{blocks_from, end_block, resizing, sized, copied_to}
use Rattle.nv_steps.specs.Zeros.{ZerosFrom}

-- for a row and a size
abbrev pub size_blocks : Row → ℕ → ℕ
size_blocks row size = blocks_from row.tail (record { mode = 0; size = 0; time = 0; owner = 0; group = 0 }) (end_block (block_at row.index) row.numbers.size size)

-- for the inode that a path leads to
abbrev pub resized_blocks : List Row → Tree → Path → ℕ → ℕ
resized_blocks rows t p size = option_map_or (λ (row : Row). size_blocks row size) (option_and_then (row_of rows) (target t p)) 0

-- The log of an inode has grown by the entries that give it a size. A page that had to be copied went to a free block: the one
-- that a CPU takes first from these pools, before those of the log. What it has past the old end is zeros.
pub record LogResized (S : Region) (l : Layout) (pools : List (List Run)) (cpu : ℕ) (held : Store) (i : ℕ) (h : Held) (node : Node) (size time : ℕ) : Type 0 where
  pub to : Option ℕ
  pub copied : is_some to ≡ is_some (end_block (block_of (good_in l h)) node.size size)
  pub between : List (List Run)
  pub taken : TakesSingly pools cpu (copied_to to) between
  pub free : (b : ℕ) → to ≡ Some b → IsUnowned l held b
  pub grew : LogGrew S l between cpu held i h (resizing node.size (sized node size time) to)
  pub zeros : ZerosFrom S node.size (resizing node.size (sized node size time) to)

-- there is such a block, or none is wanted
abbrev pub ShowsResizedLog : Region → Layout → List (List Run) → ℕ → Store → ℕ → Held → Node → ℕ → ℕ → Type 0
ShowsResizedLog S l pools cpu held i h node size time = ∥ (LogResized S l pools cpu held i h node size time) ∥₁

-- A log that grew, by what is held.
use Rattle.std.specs.Prelude.{◌≡◌, ℕ, ◌%◌, List, length}
use Rattle.std.specs.Option.{option_map_or, option_and_then}
use Rattle.nv_region.specs.Region.{Region}
use Rattle.nv_super.specs.Layout.{Layout}
use Rattle.nv_super.specs.declared.owners.Run.{Run}
use Rattle.nv_entry.specs.declared.entry.Entry.{Entry}
use Rattle.nv_alloc.specs.Taking.{TakesSingly}
use Rattle.nv_logpage.specs.Append.{needed}
use Rattle.nv_scan.specs.declared.piece.Row.{Row}
use Rattle.nv_mounted.specs.Held.{Held, Store}
use Rattle.nv_mounted.specs.Grows.{AreFree}
use Rattle.nv_mounted.specs.Mounted.{ShowsSound}
use Rattle.nv_commit.specs.Extends.{with_log}
use Rattle.nv_graph.specs.Read.{row_of}
use Rattle.nv_tree.specs.Tree.{Tree}
use Rattle.nv_tree.specs.Refusals.{Path, target}

-- how many blocks the log of the inode that a path leads to takes for these entries of its row
abbrev pub log_blocks : List Row → Tree → Path → (Row → List Entry) → ℕ
log_blocks rows t p entries = option_map_or (λ (row : Row). needed (row.tail % 4096) (entries row)) (option_and_then (row_of rows) (target t p)) 0

-- The region is sound and shows what was held, with the log of one inode grown by these entries, over free blocks: those that
-- are taken one by one from these pools, by a CPU.
pub record LogGrew (S : Region) (l : Layout) (pools : List (List Run)) (cpu : ℕ) (held : Store) (i : ℕ) (h : Held) (entries : List Entry) : Type 0 where
  pub fresh : List ℕ
  pub rest : List (List Run)
  pub taken : TakesSingly pools cpu fresh rest
  pub free : AreFree l held fresh
  pub count : length fresh ≡ needed (h.tail % 4096) entries
  pub sound : ShowsSound S l (with_log held i h entries fresh)

-- there are such blocks
abbrev pub ShowsGrownLog : Region → Layout → List (List Run) → ℕ → Store → ℕ → Held → List Entry → Type 0
ShowsGrownLog S l pools cpu held i h entries = ∥ (LogGrew S l pools cpu held i h entries) ∥₁

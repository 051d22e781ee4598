-- What a `write` of a mounted file system needs, and what it makes of a log.
use Rattle.std.specs.Prelude.{◌≡◌, ℕ, ◌<◌, List, Some}
use Rattle.std.specs.Option.{option_and_then}
use Rattle.nv_region.specs.Region.{Region}
use Rattle.nv_super.specs.declared.owners.Run.{Run}
use Rattle.nv_alloc.specs.Taking.{Takes}
use Rattle.nv_radix.specs.Pages.{block_at}
use Rattle.nv_scan.specs.declared.piece.Row.{Row}
use Rattle.nv_graph.specs.Read.{row_of}
use Rattle.nv_mounted.specs.Held.{Held, Store}
use Rattle.nv_tree.specs.Refusals.{Path, target}
use Rattle.nv_calls.specs.GrownLogs.{ShowsGrownLog}
use Rattle.nv_calls.specs.Mount.{Mount}
use Rattle.nv_paths.specs.Seen.{tree_of}
use Rattle.nv_steps.specs.Writes.{NeedsBlocks, data_blocks, data_entries, plan_of}
use Rattle.nv_steps.specs.Zeros.{ZerosFrom}
use Rattle.nv_steps.specs.declared.planning.Plan.{Plan}

-- How many blocks a write of so many bytes takes: none where there are no bytes, and else those that the file of the path
-- needs.
pub record WriteNeeds {P : Type 0} (R : Region) (m : Mount P) (cpu : ℕ) (p : Path) (offset bytes time count : ℕ) : Type 0 where
  pub none : bytes ≡ 0 → count ≡ 0
  pub some : 0 < bytes → (row : Row) → option_and_then (row_of m.rows) (target (tree_of R m.rows) p) ≡ Some row
      → NeedsBlocks m.free.pools cpu row.tail (plan_of (block_at row.index) row.numbers.size offset bytes time) count

-- The log has grown by the entries over the blocks that a take of this CPU gives, all of them at once, over those that it then
-- takes one by one. What these blocks have past the file's end is zeros.
pub record LogsWrite {P : Type 0} (S : Region) (m : Mount P) (cpu : ℕ) (held : Store) (i : ℕ) (h : Held) (plan : Plan) : Type 0 where
  pub runs : List Run
  pub rest : List (List Run)
  pub taken : Takes m.free.pools cpu (data_blocks plan) runs rest
  pub grew : ShowsGrownLog S m.layout rest cpu held i h (data_entries plan runs)
  pub zeros : ZerosFrom S plan.size (data_entries plan runs)

-- there are such runs
abbrev pub ShowsLogWrite : {P : Type 0} → Region → Mount P → ℕ → Store → ℕ → Held → Plan → Type 0
ShowsLogWrite S m cpu held i h plan = ∥ (LogsWrite S m cpu held i h plan) ∥₁

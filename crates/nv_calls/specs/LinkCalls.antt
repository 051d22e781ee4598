-- How many blocks `link` takes, and what `link` and `rename` leave of the logs.
use Rattle.std.specs.Prelude.{◌≡◌, ℕ, ◌+◌, ◌%◌, List, ◌++◌, length}
use Rattle.std.specs.List.{Contains}
use Rattle.std.specs.Option.{option_map_or}
use Rattle.nv_region.specs.Region.{Region}
use Rattle.nv_super.specs.Layout.{Layout}
use Rattle.nv_super.specs.declared.owners.Run.{Run}
use Rattle.nv_entry.specs.declared.entry.Entry.{Entry}
use Rattle.nv_alloc.specs.Taking.{TakesSingly}
use Rattle.nv_logpage.specs.Append.{needed}
use Rattle.nv_scan.specs.declared.piece.Row.{Row}
use Rattle.nv_mounted.specs.Held.{Held, Store}
use Rattle.nv_mounted.specs.Grows.{AreFree}
use Rattle.nv_mounted.specs.Mounted.{ShowsSound}
use Rattle.nv_commit.specs.Extends.{with_log}
use Rattle.nv_graph.specs.Read.{row_of}
use Rattle.nv_tree.specs.Tree.{Tree}
use Rattle.nv_tree.specs.Refusals.{Path, target}
use Rattle.nv_calls.specs.NameCalls.{name_blocks, row_blocks}
use Rattle.nv_steps.specs.NameEntries.{links_entries}

-- those that the inode of a path takes for a link count
abbrev pub links_blocks : List Row → Tree → Path → ℕ
links_blocks rows t p = option_map_or (λ i. row_blocks (row_of rows i) (links_entries 0 0)) (target t p) 0

-- `link` takes those of the file and those of the directory of the new name
abbrev pub link_blocks : List Row → Tree → Path → Path → ℕ
link_blocks rows t p q = links_blocks rows t p + name_blocks rows t q

-- The region is sound, and shows what was held with these entries behind two logs, over free blocks: those that are taken one by
-- one from these pools, by a CPU, the first log's first.
pub record BothGrew (S : Region) (l : Layout) (pools : List (List Run)) (cpu : ℕ) (held : Store) (i : ℕ) (h : Held) (entries : List Entry) (j : ℕ) (g : Held) (others : List Entry) : Type 0 where
  pub fresh : List ℕ
  pub more : List ℕ
  pub rest : List (List Run)
  pub taken : TakesSingly pools cpu (fresh ++ more) rest
  pub free : AreFree l held fresh
  pub more_free : AreFree l held more
  pub apart : (b : ℕ) → Contains fresh b → Contains more b → ⊥
  pub count : length fresh ≡ needed (h.tail % 4096) entries
  pub more_count : length more ≡ needed (g.tail % 4096) others
  pub sound : ShowsSound S l (with_log (with_log held i h entries fresh) j g others more)

-- there are such blocks
abbrev pub ShowsBothGrew : Region → Layout → List (List Run) → ℕ → Store → ℕ → Held → List Entry → ℕ → Held → List Entry → Type 0
ShowsBothGrew S l pools cpu held i h entries j g others = ∥ (BothGrew S l pools cpu held i h entries j g others) ∥₁

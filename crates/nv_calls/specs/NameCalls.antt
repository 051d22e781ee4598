-- How many blocks `create` and `mkdir` take, and what they leave of the logs.
use Rattle.std.specs.Prelude.{◌≡◌, ℕ, ◌+◌, ◌%◌, ◌==◌, ◌&&◌, is_none, if◌then◌else◌, List, ◌∷◌, length, Some, None, Result, Ok, Err, Option}
use Rattle.std.specs.List.{Contains}
use Rattle.std.specs.Option.{option_map_or}
use Rattle.nv_region.specs.Region.{Region}
use Rattle.nv_super.specs.declared.kind.Kind.{Kind}
use Rattle.nv_super.specs.Layout.{Layout}
use Rattle.nv_super.specs.declared.owners.Run.{Run}
use Rattle.nv_entry.specs.declared.entry.Operation.TheVariants.{Add}
use Rattle.nv_entry.specs.declared.entry.Entry.{Entry}
use Rattle.nv_alloc.specs.Taking.{TakesSingly}
use Rattle.nv_logpage.specs.Append.{needed}
use Rattle.nv_scan.specs.declared.piece.Row.{Row}
use Rattle.nv_mounted.specs.Held.{Held, Store}
use Rattle.nv_mounted.specs.Grows.{AreFree}
use Rattle.nv_mounted.specs.Mounted.{ShowsSound}
use Rattle.nv_graph.specs.Read.{row_of}
use Rattle.nv_tree.specs.declared.refusal.Refusal.{Refusal}
use Rattle.nv_tree.specs.Path.{last_name}
use Rattle.nv_tree.specs.Tree.{Tree, walk}
use Rattle.nv_tree.specs.Refusals.{Path}
use Rattle.nv_steps.specs.NameEntries.{name_entries, with_named}
use Rattle.nv_rows.specs.Unused.{unused_number}
use Rattle.nv_calls.specs.Growing.{GivesSlot}

-- how many blocks the log of a row takes for entries; none where there is no row
abbrev pub row_blocks : Option Row → List Entry → ℕ
row_blocks row entries = option_map_or (λ (r : Row). needed (r.tail % 4096) entries) row 0

-- the row of the directory where a walk ended
abbrev pub ended_row : List Row → Result ℕ Refusal → Option Row
ended_row rows (Err r) = None
ended_row rows (Ok d) = row_of rows d

-- those that the directory of a path's last name takes for an entry of that name
abbrev pub name_blocks : List Row → Tree → Path → ℕ
name_blocks rows t None = 0
name_blocks rows t (Some names) = row_blocks (ended_row rows (walk t 1 names)) (name_entries Add 0 (last_name names) 0)

-- how many blocks the table of a CPU takes for a new inode: one where no number of it is unused, in version 2
abbrev pub table_growth : Layout → List Row → ℕ → ℕ
table_growth l rows cpu = if l.sup.version == 2 && is_none (unused_number l rows cpu) then 1 else 0

-- `create` and `mkdir` take that one, and a page for the new log too
abbrev pub create_blocks : Layout → List Row → ℕ → Tree → Path → ℕ
create_blocks l rows cpu t p = table_growth l rows cpu + (1 + name_blocks rows t p)

-- The region is sound, and shows what was held with a new inode of this number and its name in the directory's log, over free
-- blocks: those that are taken one by one from these pools, by a CPU, the new log's page first.
pub record WasCreated (S : Region) (l : Layout) (pools : List (List Run)) (cpu : ℕ) (held : Store) (kind : Kind) (mode time j d : ℕ) (h : Held) (name : List ℕ) : Type 0 where
  pub page : ℕ
  pub fresh : List ℕ
  pub rest : List (List Run)
  pub taken : TakesSingly pools cpu (page ∷ fresh) rest
  pub free : AreFree l held (page ∷ fresh)
  pub apart : Contains fresh page → ⊥
  pub count : length fresh ≡ needed (h.tail % 4096) (name_entries Add j name time)
  pub sound : ShowsSound S l (with_named held kind mode time j d h name page fresh)

-- There are such blocks, by the tables and pools that are left where the number got its slot.
abbrev pub ShowsCreated : Region → Layout → List (List Run) → ℕ → Store → Kind → ℕ → ℕ → ℕ → ℕ → Held → List ℕ → Type 0
ShowsCreated S l pools cpu held kind mode time j d h name =
    ∥ ((grown : Layout) × (rest : List (List Run)) × GivesSlot l pools cpu j grown rest × WasCreated S grown rest cpu held kind mode time j d h name) ∥₁

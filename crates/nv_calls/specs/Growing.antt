-- The slot of a new inode: its number has one, or the table of its CPU grows by a block for it.
use Rattle.std.specs.Prelude.{◌≡◌, ◌⊎◌, ℕ, ◌/◌, ◌<◌, ◌≤◌, if◌then◌else◌, List, [], ◌∷◌, Some, None, Result, IfErr, IsTrue}
use Rattle.nv_region.specs.Region.{Region}
use Rattle.nv_region.specs.Stops.{Choices}
use Rattle.nv_region.specs.Fuses.{FuseState}
use Rattle.nv_super.specs.declared.kind.Kind.{Kind}
use Rattle.nv_super.specs.declared.owners.Run.{Run}
use Rattle.nv_super.specs.Layout.{Layout, slot_of, system_blocks}
use Rattle.nv_inode.specs.Growing.{with_block}
use Rattle.nv_inode.specs.Numbers.{has_slot, next_number}
use Rattle.nv_inode.specs.Tables.{TableChains}
use Rattle.nv_journal.specs.Pending.{IsEmpty}
use Rattle.nv_alloc.specs.FreeValue.{FreeLists}
use Rattle.nv_alloc.specs.Taking.{TakesSingly}
use Rattle.nv_scan.specs.declared.piece.Row.{Row}
use Rattle.nv_names.specs.Names.{IsName}
use Rattle.nv_rows.specs.RowList.{HasNumbersOf, RowList}
use Rattle.nv_rows.specs.Rows.{IsInUse, row_of}
use Rattle.nv_mounted.specs.Held.{Store}
use Rattle.nv_commit.specs.Stopped.{LeavesEither, RollsBackTo}
use Rattle.nv_tree.specs.declared.refusal.Refusal.{Refusal}
use Rattle.nv_tree.specs.declared.refusal.Refusal.TheVariants.{Stopped}
use Rattle.nv_steps.specs.Grown.{StandsRight}
use Rattle.nv_steps.specs.GrownTables.{CanGrow, GrowsTable, grown_more}
use Rattle.nv_steps.specs.Keeping.{SettlesStep}
use Rattle.nv_steps.specs.Stopped.{Named}
use Rattle.nv_steps.specs.Stores.{Places, one_more}
use Rattle.nv_calls.specs.AtPlaces.{CreatesAt, LeavesRows}

-- A CPU has taken a block from these pools, and it is the last of its chain.
abbrev pub TableGrew : Layout → List (List Run) → ℕ → Layout → List (List Run) → Type 0
TableGrew l pools cpu grown rest = (b : ℕ) × (grown ≡ with_block l cpu b) × TakesSingly pools cpu (b ∷ []) rest

-- Where the number has a slot, tables and pools stay. Else the table of the CPU grew.
abbrev pub GivesSlot : Layout → List (List Run) → ℕ → ℕ → Layout → List (List Run) → Type 0
GivesSlot l pools cpu j grown rest = (IsTrue (has_slot l j) × (grown ≡ l) × (rest ≡ pools)) ⊎ ((slot_of l j ≡ None) × TableGrew l pools cpu grown rest)

-- The number is the first of the CPU without a slot, and the CPU's table can grow: the next block of its chain gives it one.
abbrev pub GetsNext : Region → Layout → FreeLists → ℕ → ℕ → Type 0
GetsNext R l free cpu j = (j ≡ next_number l cpu) × CanGrow R l free cpu

-- The number has a slot, or gets the next one.
abbrev pub CanGetSlot : Region → Layout → FreeLists → ℕ → ℕ → Type 0
CanGetSlot R l free cpu j = IsTrue (has_slot l j) ⊎ GetsNext R l free cpu j

-- What is known where a new inode gets a name in a row's directory, by a CPU's journal: nothing waits in the journal, and the tail's
-- page of the directory's log is a data block.
pub record CanNameIn (R : Region) (l : Layout) (cpu : ℕ) (row : Row) : Type 0 where
  pub cpu_below : cpu < l.sup.cpus
  pub journal_empty : IsEmpty R cpu
  pub in_data : system_blocks l.sup ≤ row.tail / 4096

-- What is known where a new inode of a number gets a name in a directory, by a CPU: the directory has a row, as its log says, the
-- number has none, and the rows have the numbers of the tables.
pub record CanCreate (R : Region) (l : Layout) (free : FreeLists) (cpu : ℕ) (rows : RowList) (directory j : ℕ) (name : List ℕ) : Type 0 where
  pub in_use : IsInUse rows.items directory
  pub numbers : HasNumbersOf l rows
  pub unused : row_of rows.items j ≡ None
  pub stands : (row : Row) → row_of rows.items directory ≡ Some row → StandsRight R l free row
  pub can : (row : Row) → row_of rows.items directory ≡ Some row → CanNameIn R l cpu row
  pub good : IsName name

-- how many blocks a table takes for a new inode of this number
abbrev pub grown_blocks : Layout → ℕ → ℕ
grown_blocks l j = if has_slot l j then 0 else 1

-- Where the number had a slot, nothing has changed. Else the table of the CPU grew by a block, whose first slot is the number's.
abbrev pub GotSlot : Region → Region → Layout → Layout → FreeLists → FreeLists → ℕ → ℕ → Type 0
GotSlot R S l grown free after cpu j = (IsTrue (has_slot l j) × (S ≡ R) × (grown ≡ l) × (after ≡ free)) ⊎ GrowsTable R S l grown free after cpu j

-- The number got a slot, and then the new inode and its name were made.
pub record CreatesGrown (R S : Region) (l grown : Layout) (free after : FreeLists) (cpu : ℕ) (rows news : List Row) (place : ℕ) (kind : Kind) (mode time j : ℕ) (name : List ℕ) : Type 0 where
  pub mid : Region
  pub between : FreeLists
  pub got : GotSlot R mid l grown free between cpu j
  pub step : CreatesAt mid S grown between after cpu rows news place kind mode time j name

-- What it keeps, whatever comes of it. Where it was refused but by a stop, it has changed nothing. The rows have the numbers of the
-- tables, which are as before or have grown for the number.
pub record KeepsTables {M T : Type 0} (region : M → Region) (may_hold : M → Choices) (fuse : M → FuseState) (old new : M) (before after : FreeLists) (had has' : RowList)
    (was now : TableChains) (cpu j : ℕ) (result : Result T Refusal) : Type 0 where
  pub step : SettlesStep region may_hold fuse old new before after result
  pub open step use *
  pub unchanged : IfErr result (λ e. (e ≡ Stopped → ⊥) → LeavesRows old new before after had.items has'.items × (now.layout ≡ was.layout))
  pub numbers : HasNumbersOf now.layout has'
  pub grown : (now.layout ≡ was.layout) ⊎ ((slot_of was.layout j ≡ None) × ((b : ℕ) × (now.layout ≡ with_block was.layout cpu b)))

-- What a stop leaves of it: rolled back, it is what was there. Or the number got a slot, and by the tables of then it is what was
-- there, or that with the new inode and its name.
abbrev pub LeavesCreated : Region → Layout → FreeLists → ℕ → Store → Row → Kind → ℕ → ℕ → ℕ → List ℕ → Region → Type 0
LeavesCreated R l free cpu held row kind mode time j name left = RollsBackTo R l held held left
    ⊎ ((mid : Region) × (grown : Layout) × (between : FreeLists) × GotSlot R mid l grown free between cpu j
    × LeavesEither mid grown held (Named mid grown between cpu row kind mode time j name) left)

-- Where it stores: in the places of an inode that comes. Where its number has no slot, the new one stands in a block that was free, and
-- the last link of the CPU's chain is stored.
abbrev pub create_places : Layout → ℕ → ℕ → ℕ → Places
create_places l cpu j d = if has_slot l j then one_more l cpu j d else grown_more l cpu d

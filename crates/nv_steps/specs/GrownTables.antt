-- A CPU's table that grows by one block, which is linked to the end of its chain.
use Rattle.std.specs.Prelude.{◌≡◌, ◌⊎◌, ℕ, ◌+◌, ◌*◌, ◌/◌, ◌<◌, ◌≤◌, List, [], ◌∷◌, Some, None, slice_get}
use Rattle.nv_region.specs.Region.{Region, size}
use Rattle.nv_super.specs.declared.kind.Kind.{Kind}
use Rattle.nv_super.specs.Layout.{Layout, chain_of, slot_of, system_blocks}
use Rattle.nv_inode.specs.Chains.{first_link, link_behind}
use Rattle.nv_inode.specs.Growing.{IsLinked, with_block}
use Rattle.nv_inode.specs.Numbers.{next_number}
use Rattle.nv_inode.specs.Tables.{TableChains}
use Rattle.nv_journal.specs.Pending.{IsEmpty}
use Rattle.nv_alloc.specs.FreeValue.{FreeLists}
use Rattle.nv_alloc.specs.FreeLists.{IsFreeIn}
use Rattle.nv_scan.specs.declared.piece.Row.{Row}
use Rattle.nv_mounted.specs.Held.{Held, Store}
use Rattle.nv_mounted.specs.Blocks.{KeepsFree}
use Rattle.nv_mounted.specs.Bytes.{byte_of}
use Rattle.nv_mounted.specs.Mounted.{KeepsRow, ShowsSound}
use Rattle.nv_commit.specs.Stopped.{LeavesEither, RollsBackTo}
use Rattle.nv_steps.specs.InOrder.{tail_address}
use Rattle.nv_steps.specs.NewNames.{MakesNamed}
use Rattle.nv_steps.specs.Steps.{LeavesStep}
use Rattle.nv_steps.specs.Stopped.{Named}
use Rattle.nv_steps.specs.Stores.{Places}
use Rattle.nv_steps.specs.Taken.{TakesEach}

-- where the last link of a CPU's chain stands
abbrev pub last_link : Layout → ℕ → ℕ
last_link l cpu = link_behind (first_link cpu) (chain_of l cpu)

-- What is known where a CPU's table is to grow: the region's version is the one with chains, and no block of the CPU's chain
-- is free.
pub record CanGrow (R : Region) (l : Layout) (free : FreeLists) (cpu : ℕ) : Type 0 where
  pub version : l.sup.version ≡ 2
  pub cpu_below : cpu < l.sup.cpus
  pub lists : free.sup ≡ l.sup
  pub blocks : 4096 * l.sup.blocks ≤ size R
  pub used : (c k b : ℕ) → slice_get (chain_of l cpu) k ≡ Some b → IsFreeIn free c b → ⊥

-- The region shows what is held, with nothing wrong, and the free lists are of it.
pub record ShowsFree (R : Region) (l : Layout) (held : Store) (free : FreeLists) : Type 0 where
  pub sound : ShowsSound R l held
  pub lists : KeepsFree l held free.pools

-- By the grown layout the region shows what was held, and the free lists are of it. No inode has the number, rows say what they
-- said, and each byte of a file is where it was.
pub record ShowsGrown (R S : Region) (l grown : Layout) (held : Store) (after : FreeLists) (number : ℕ) : Type 0 where
  pub shows : ShowsFree S grown held after
  pub unused : held number ≡ None
  pub rows : (h : Held) (row : Row) → KeepsRow l h row → KeepsRow grown h row
  pub bytes : (i : ℕ) (g : Held) → held i ≡ Some g → (x : ℕ) → byte_of S grown g x ≡ byte_of R l g x

-- A block that a CPU took is linked to the end of the CPU's chain, and none of its slots is in use. The number is that of the
-- first of them, and had no slot before.
pub record GrowsTable (R S : Region) (l grown : Layout) (free after : FreeLists) (cpu number : ℕ) : Type 0 where
  pub block : ℕ
  pub taken : TakesEach free cpu (block ∷ []) after
  pub layout : grown ≡ with_block l cpu block
  pub is_next : number ≡ next_number l cpu
  pub none_before : slot_of l number ≡ None
  pub slot : slot_of grown number ≡ Some (4096 * block + 128)
  pub linked : IsLinked R (last_link l cpu) block S
  pub shows : (held : Store) → ShowsFree R l held free → ShowsGrown R S l grown held after number

-- what a stop may leave of it: the table has grown
abbrev pub TableGrown : Region → Layout → FreeLists → ℕ → Region → Type 0
TableGrown R l free cpu S = (after : FreeLists) × (grown : Layout) × (number : ℕ) × GrowsTable R S l grown free after cpu number

-- where it stores beside a free block: in the last link of the CPU's chain
abbrev pub one_link : Layout → ℕ → Places
one_link l cpu = record { logs = []; slots = []; journals = []; words = last_link l cpu ∷ [] }

-- ---- and a new inode in its first slot

-- What is known where a new inode gets the first number of a CPU that has no slot, and a name in a row's directory, by the
-- CPU's journal.
pub record CanNameNext (R : Region) (l : Layout) (free : FreeLists) (cpu : ℕ) (row : Row) : Type 0 where
  pub grow : CanGrow R l free cpu
  pub journal_empty : IsEmpty R cpu
  pub in_data : system_blocks l.sup ≤ row.tail / 4096

-- The tables are as before, or a CPU's has one block more.
abbrev pub MayGrow : Layout → ℕ → Layout → Type 0
MayGrow l cpu now = (now ≡ l) ⊎ ((block : ℕ) × (now ≡ with_block l cpu block))

-- At most a CPU's table has grown, by one block. What is wrong with the ends of chains is as before.
pub record GrowsAtMost (cpu : ℕ) (old new : TableChains) : Type 0 where
  pub layout : MayGrow old.layout cpu new.layout
  pub faults : new.faults ≡ old.faults

-- The same, and the row is of the inode that it was of.
pub record GrowsAtMostBeside (cpu : ℕ) (old new : TableChains) (had has' : Row) : Type 0 where
  pub tables : GrowsAtMost cpu old new
  pub open tables use *
  pub inode : has'.inode ≡ had.inode

-- A step that was refused has changed nothing, also of the tables.
pub record LeavesTables {P : Type 0} (old new : P) (before after : FreeLists) (had has' : Row) (was now : Layout) : Type 0 where
  pub step : LeavesStep old new before after had has'
  pub layout : now ≡ was

-- A CPU's table grew by a block, and then the inode of its first slot was made, with its name.
pub record GrowsAndNames (R S : Region) (l grown : Layout) (free after : FreeLists) (cpu : ℕ) (old new : Row) (kind : Kind) (mode time j : ℕ) (name : List ℕ) (made : Row) : Type 0 where
  pub middle : Region
  pub mid : FreeLists
  pub grows : GrowsTable R middle l grown free mid cpu j
  pub makes : MakesNamed middle S grown mid after cpu old new kind mode time j name made

-- What a stop leaves of it: what was there, in tables as before or in grown ones, or that with the new inode.
abbrev pub LeavesGrown : Region → Layout → Store → FreeLists → ℕ → Row → Kind → ℕ → ℕ → ℕ → List ℕ → Region → Type 0
LeavesGrown R l held free cpu old kind mode time j name left = RollsBackTo R l held held left
    ⊎ ((middle : Region) × (grown : Layout) × (mid : FreeLists) × GrowsTable R middle l grown free mid cpu j
    × LeavesEither middle grown held (Named middle grown mid cpu old kind mode time j name) left)

-- Where it stores beside free blocks: the new slot stands in one of them.
abbrev pub grown_more : Layout → ℕ → ℕ → Places
grown_more l cpu d = record { logs = d ∷ []; slots = []; journals = cpu ∷ []; words = last_link l cpu ∷ tail_address l d ∷ [] }

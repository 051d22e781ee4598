-- A mounted region without faults: what is held, and the rows and free lists that stand for it.
use Rattle.std.specs.Prelude.{◌≡◌, ℕ, ◌<◌, true, List, [], Some}
use Rattle.std.specs.List.{Contains}
use Rattle.nv_region.specs.Region.{Region}
use Rattle.nv_super.specs.declared.owners.Run.{Run}
use Rattle.nv_super.specs.declared.faults.Fault.{Fault}
use Rattle.nv_super.specs.Layout.{Layout}
use Rattle.nv_super.specs.Order.{Rises}
use Rattle.nv_super.specs.Super.{IsSuper}
use Rattle.nv_inode.specs.Chains.{chain_faults, layout_of}
use Rattle.nv_journal.specs.Undo.{dequeue, enqueue, is_sound}
use Rattle.nv_radix.specs.Pages.{block_at}
use Rattle.nv_names.specs.Names.{name_at}
use Rattle.nv_scan.specs.State.{block_of, named}
use Rattle.nv_scan.specs.Faults.{IsEntryFault}
use Rattle.nv_scan.specs.Rows.{AreNumbers}
use Rattle.nv_scan.specs.declared.piece.Row.{Row}
use Rattle.nv_cross_check.specs.Cross.{row_key}
use Rattle.nv_graph.specs.Graph.{NoCrossFaults}
use Rattle.nv_outcome.specs.Outcome.{Outcome}
use Rattle.nv_mounted.specs.Held.{Held, Store, Shows, good_in}
use Rattle.nv_mounted.specs.Blocks.{KeepsFree, NoneDoubled}
use Rattle.nv_mounted.specs.Graph.{graph_in}

-- The row is what is held of an inode: its indexes are compared by what each page and each name stands for.
pub record KeepsRow (l : Layout) (h : Held) (row : Row) : Type 0 where
  pub kind : row.kind ≡ h.kind
  pub numbers : AreNumbers h.created (good_in l h) row.numbers
  pub head : row.head ≡ h.head
  pub tail : row.tail ≡ h.tail
  pub pages : row.pages.items ≡ h.pages
  pub index : (p : ℕ) → block_at row.index p ≡ block_of (good_in l h) p
  pub names : (q : List ℕ) → name_at row.names q ≡ named (good_in l h) q

-- A row for each inode that is held, rising by number.
pub record KeepsRows (l : Layout) (held : Store) (rows : List Row) : Type 0 where
  pub rising : Rises row_key rows
  pub each : (row : Row) → Contains rows row → (h : Held) × (held row.inode ≡ Some h) × KeepsRow l h row
  pub all : (i : ℕ) (h : Held) → held i ≡ Some h → (row : Row) × Contains rows row × (row.inode ≡ i)

-- The rows and the free lists are those of what is held.
pub record Keeps (l : Layout) (held : Store) (rows : List Row) (free : List (List Run)) : Type 0 where
  pub in_rows : KeepsRows l held rows
  pub in_lists : KeepsFree l held free

-- nothing is wrong with the entries of the logs
abbrev pub AreClean : Layout → Store → Type 0
AreClean l held = (i : ℕ) (h : Held) (f : Fault) → held i ≡ Some h → IsEntryFault l.sup h.kind i h.entries f → ⊥

-- Nothing is wrong with what is held: with the entries, the blocks and the names.
pub record IsFaultless (l : Layout) (held : Store) : Type 0 where
  pub clean : AreClean l held
  pub undoubled : NoneDoubled l held
  pub named : NoCrossFaults (graph_in l held)

-- each journal has right pointers, and nothing is pending in it
abbrev pub AreIdle : ℕ → Region → Type 0
AreIdle cpus R = (cpu : ℕ) → cpu < cpus → (is_sound R cpu ≡ true) × (dequeue R cpu ≡ enqueue R cpu)

-- The region has this superblock and these chains, and nothing is wrong with their last links.
pub record HasTables (R : Region) (l : Layout) : Type 0 where
  pub sup : IsSuper R l.sup
  pub laid : l ≡ layout_of l.sup R
  pub ended : chain_faults l.sup R ≡ []

-- The region has these tables and shows what is held, and nothing is wrong with it.
pub record ShowsSound (R : Region) (l : Layout) (held : Store) : Type 0 where
  pub tables : HasTables R l
  pub open tables use *
  pub idle : AreIdle l.sup.cpus R
  pub shows : Shows R l held
  pub faultless : IsFaultless l held

-- And it is what the rows and the free lists say.
pub record IsMounted (R : Region) (l : Layout) (held : Store) (rows : List Row) (free : List (List Run)) : Type 0 where
  pub sound : ShowsSound R l held
  pub keeps : Keeps l held rows free

-- the outcome without a fault that has these tables, these rows and these free lists
abbrev pub faultless_outcome : Layout → List Row → List (List Run) → Outcome
faultless_outcome l rows free = record { sup = l.sup; tables = l.chains; rows = rows; free = free; doubled = []; faults = [] }

-- the layout of an outcome
abbrev pub outcome_layout : Outcome → Layout
outcome_layout o = record { sup = o.sup; chains = o.tables }

-- What a mount shows of a region: the definition that recovery is measured by.
use Rattle.std.specs.Prelude.{◌≡◌, ◌≢◌, ℕ, ◌<◌, ◌≤◌, List, ◌∷◌, length, Some}
use Rattle.std.specs.List.{Contains}
use Rattle.nv_region.specs.Region.{Region}
use Rattle.nv_super.specs.declared.superblock.Super.{Super}
use Rattle.nv_super.specs.declared.owners.Owner.{Owner}
use Rattle.nv_super.specs.declared.owners.Run.{Run}
use Rattle.nv_super.specs.declared.kind.Kind.TheVariants.{File, Directory}
use Rattle.nv_super.specs.declared.faults.Fault.{Fault}
use Rattle.nv_super.specs.declared.faults.Fault.TheVariants as faults
use Rattle.nv_super.specs.Layout.{Layout, system_blocks, InPool}
use Rattle.nv_super.specs.Order.{fault_key, claim_key, Lists, Rises}
use Rattle.nv_super.specs.Runs.{AreRuns}
use Rattle.nv_super.specs.Super.{IsSuper}
use Rattle.nv_inode.specs.Chains.{chain_faults, chains_in, layout_of}
use Rattle.nv_journal.specs.Undo.{undone}
use Rattle.nv_journal.specs.Faults.{HasFault}
use Rattle.nv_alloc.specs.Taking.{pool_at}
use Rattle.nv_scan.specs.State.{named, links_of}
use Rattle.nv_scan.specs.Inode.{Log, IsInode, IsInUse, good_of}
use Rattle.nv_scan.specs.Owners.{Owns}
use Rattle.nv_scan.specs.Faults.{IsFaultOf}
use Rattle.nv_scan.specs.Rows.{IsRow}
use Rattle.nv_scan.specs.declared.piece.Row.{Row}
use Rattle.nv_cross_check.specs.Cross.{row_key}

-- ---- rows

-- A row for each inode in use, rising by number.
pub record AreRows (R : Region) (l : Layout) (rows : List Row) : Type 0 where
  pub rising : Rises row_key rows
  pub each : (row : Row) → Contains rows row → (a : ℕ) × (log : Log) × IsRow R l a log row
  pub all : (i : ℕ) → IsInUse R l i → (row : Row) × Contains rows row × (row.inode ≡ i)

-- ---- blocks

-- a data block without an owner
pub record IsFree (R : Region) (l : Layout) (b : ℕ) : Type 0 where
  pub from : system_blocks l.sup ≤ b
  pub below : b < l.sup.blocks
  pub unowned : (o : Owner) → Owns R l b o → ⊥

-- For each pool the rising runs, none touching another, of its free blocks.
pub record AreFreeLists (R : Region) (l : Layout) (free : List (List Run)) : Type 0 where
  pub pools : length free ≡ l.sup.cpus
  pub each : (cpu : ℕ) → cpu < l.sup.cpus → AreRuns (λ b. InPool l.sup cpu b × IsFree R l b) (pool_at free cpu)

-- o owns b, and another owner owns b
pub record IsDoubled (R : Region) (l : Layout) (b : ℕ) (o : Owner) : Type 0 where
  pub owns : Owns R l b o
  pub another : (other : Owner) × (other ≢ o) × Owns R l b other

-- ---- names

-- directory d in use has the name, for inode i, by an add at this place
abbrev pub HasName : Region → Layout → ℕ → List ℕ → ℕ → ℕ → Type 0
HasName R l d name i at = (a : ℕ) × (log : Log) × IsInode R l d a log × (log.kind ≡ Directory) × (named (good_of l log) name ≡ Some (i, at))

-- The names of an inode over all directories in use, as directory and name, each once.
abbrev pub AreNamesOf : Region → Layout → ℕ → List (ℕ × List ℕ) → Type 0
AreNamesOf R l i names = Lists (λ (x : ℕ × List ℕ). x.0 ∷ x.1) (λ x. (at : ℕ) × HasName R l x.0 x.1 i at) names

-- The root, and what a reached directory names, as far as it is in use.
pub data IsReached (R : Region) (l : Layout) : ℕ → Type 0 where
  root : {a : ℕ} {log : Log} → IsInode R l 1 a log → log.kind ≡ Directory → IsReached R l 1
  step : {d i : ℕ} (name : List ℕ) (at : ℕ) → IsReached R l d → HasName R l d name i at → IsInUse R l i → IsReached R l i

-- ---- faults

-- What is wrong between inodes.
pub data IsCrossFault (R : Region) (l : Layout) : Fault → Type 0 where
  -- a name's inode isn't in use
  c1 : {d at : ℕ} (name : List ℕ) (i : ℕ) → HasName R l d name i at → (IsInUse R l i → ⊥) → IsCrossFault R l (faults.C1 d at)
  -- a directory but the root isn't named exactly once
  c2 : {i a : ℕ} {log : Log} (names : List (ℕ × List ℕ)) → IsInode R l i a log → log.kind ≡ Directory → i ≢ 1 → AreNamesOf R l i names → length names ≢ 1 → IsCrossFault R l (faults.C2 i)
  -- the root directory is named
  c2_root : {a : ℕ} {log : Log} (names : List (ℕ × List ℕ)) → IsInode R l 1 a log → log.kind ≡ Directory → AreNamesOf R l 1 names → 0 < length names → IsCrossFault R l (faults.C2 1)
  -- a file's link count isn't its number of names
  c3 : {i a : ℕ} {log : Log} (names : List (ℕ × List ℕ)) → IsInode R l i a log → log.kind ≡ File → AreNamesOf R l i names → links_of (good_of l log) ≢ length names → IsCrossFault R l (faults.C3 i)
  -- in use, and not reached by names from the root
  c4 : {i : ℕ} → IsInUse R l i → (IsReached R l i → ⊥) → IsCrossFault R l (faults.C4 i)
  -- inode 1 isn't a directory in use
  c5 : ((a : ℕ) (log : Log) → IsInode R l 1 a log → log.kind ≡ Directory → ⊥) → IsCrossFault R l faults.C5

-- What is wrong with a region: with its journals as the region came, and with all else once they are rolled back. That leaves the
-- layout as it is.
pub data IsFaulty (R : Region) (s : Super) : Fault → Type 0 where
  journal : {f : Fault} → HasFault s R f → IsFaulty R s f
  -- the last link of a chain
  chain : {f : Fault} → Contains (chain_faults s (undone s R)) f → IsFaulty R s f
  inode : {f : Fault} (i : ℕ) → IsFaultOf (undone s R) (layout_of s (undone s R)) i f → IsFaulty R s f
  cross : {f : Fault} → IsCrossFault (undone s R) (layout_of s (undone s R)) f → IsFaulty R s f
  -- a doubled block, once for each owner
  double : {b : ℕ} {o : Owner} → IsDoubled (undone s R) (layout_of s (undone s R)) b o → IsFaulty R s (faults.B1 b o)

-- ---- the outcome

-- The superblock's numbers, for each CPU the blocks of its table's chain, the rows of the inodes in use, for each CPU the free
-- runs of its pool, the doubled blocks with their owners, and the faults.
pub record Outcome : Type 0 where
  pub sup : Super
  pub tables : List (List ℕ)
  pub rows : List Row
  pub free : List (List Run)
  pub doubled : List (ℕ × Owner)
  pub faults : List Fault

-- The outcome of a region whose superblock is accepted: of the region with its journals rolled back, but for the journals' own faults.
pub record IsOutcome (R : Region) (o : Outcome) : Type 0 where
  pub sup : IsSuper R o.sup
  pub tables : o.tables ≡ chains_in o.sup (undone o.sup R)
  pub rows : AreRows (undone o.sup R) (layout_of o.sup (undone o.sup R)) o.rows
  pub free : AreFreeLists (undone o.sup R) (layout_of o.sup (undone o.sup R)) o.free
  pub doubled : Lists claim_key (λ x. IsDoubled (undone o.sup R) (layout_of o.sup (undone o.sup R)) x.0 x.1) o.doubled
  pub faults : Lists fault_key (IsFaulty R o.sup) o.faults

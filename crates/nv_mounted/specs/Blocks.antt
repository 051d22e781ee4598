-- The owners of blocks and the free blocks, by what is held.
use Rattle.std.specs.Prelude.{◌≡◌, ◌⊎◌, ℕ, ◌<◌, ◌≤◌, List, length, Option, Some, slice_get}
use Rattle.nv_super.specs.declared.owners.Owner.{Owner}
use Rattle.nv_super.specs.declared.owners.Owner.TheVariants as owners
use Rattle.nv_super.specs.declared.owners.Run.{Run}
use Rattle.nv_super.specs.Layout.{Layout, chain_of, system_blocks, InPool}
use Rattle.nv_super.specs.Runs.{AreRuns}
use Rattle.nv_alloc.specs.Taking.{pool_at}
use Rattle.nv_scan.specs.State.{block_of}
use Rattle.nv_mounted.specs.Held.{Held, Store, good_in, with_inode}

-- the owner has this block
pub data OwnsIn (l : Layout) (held : Store) : ℕ → Owner → Type 0 where
  by_table : {c k b : ℕ} → slice_get (chain_of l c) k ≡ Some b → OwnsIn l held b (owners.Table c k)
  by_log : {i k b : ℕ} {h : Held} → held i ≡ Some h → slice_get h.pages k ≡ Some b → OwnsIn l held b (owners.Log i k)
  by_page : {i p b : ℕ} {h : Held} → held i ≡ Some h → block_of (good_in l h) p ≡ Some b → OwnsIn l held b (owners.Data i p)

-- the owner is this inode, by its log or its file
abbrev pub IsOf : ℕ → Owner → Type 0
IsOf i (owners.Table c k) = ⊥
IsOf i (owners.Log j k) = j ≡ i
IsOf i (owners.Data j p) = j ≡ i

-- a data block without an owner
pub record IsUnowned (l : Layout) (held : Store) (b : ℕ) : Type 0 where
  pub from : system_blocks l.sup ≤ b
  pub below : b < l.sup.blocks
  pub unowned : (o : Owner) → OwnsIn l held b o → ⊥

-- no block has two owners
abbrev pub NoneDoubled : Layout → Store → Type 0
NoneDoubled l held = (b : ℕ) (o other : Owner) → OwnsIn l held b o → OwnsIn l held b other → o ≡ other

-- With this in its place, each block that the inode owns was its own or free, and it owns none twice.
pub record OwnsNew (l : Layout) (held : Store) (i : ℕ) (new : Option Held) : Type 0 where
  pub each : (b : ℕ) (o : Owner) → OwnsIn l (with_inode held i new) b o → IsOf i o → ((before : Owner) × OwnsIn l held b before × IsOf i before) ⊎ IsUnowned l held b
  pub once : (b : ℕ) (o other : Owner) → OwnsIn l (with_inode held i new) b o → OwnsIn l (with_inode held i new) b other → IsOf i o → IsOf i other → o ≡ other

-- For each pool the rising runs, none touching another, of its blocks of which P holds.
pub record ArePoolRuns (l : Layout) (P : ℕ → Type 0) (free : List (List Run)) : Type 0 where
  pub pools : length free ≡ l.sup.cpus
  pub each : (cpu : ℕ) → cpu < l.sup.cpus → AreRuns (λ b. InPool l.sup cpu b × P b) (pool_at free cpu)

-- the free lists are those of the free blocks
abbrev pub KeepsFree : Layout → Store → List (List Run) → Type 0
KeepsFree l held free = ArePoolRuns l (IsUnowned l held) free

-- What recovery finds in a region that a stop within a call has left.
use Rattle.std.specs.Prelude.{◌≡◌, ◌≢◌, ◌⊎◌, ℕ, ◌<◌, ◌≤◌, List, None}
use Rattle.nv_region.specs.Region.{Region}
use Rattle.nv_super.specs.declared.superblock.Super.{Super}
use Rattle.nv_super.specs.declared.superblock.SuperFault.TheVariants.{Magic}
use Rattle.nv_super.specs.declared.owners.Run.{Run}
use Rattle.nv_super.specs.Super.{IsRefused, IsSuper}
use Rattle.nv_super.specs.Layout.{Layout}
use Rattle.nv_journal.specs.Undo.{undone}
use Rattle.nv_format.specs.Format.{IsFormatted}
use Rattle.nv_scan.specs.declared.piece.Row.{Row}
use Rattle.nv_outcome.specs.Outcome.{Outcome, IsOutcome}
use Rattle.nv_outcome.specs.Same.{SameOutcome}
use Rattle.nv_mounted.specs.Mounted.{faultless_outcome}
use Rattle.nv_tree.specs.Tree.{SameTree, Tree}
use Rattle.nv_paths.specs.Seen.{tree_of}
use Rattle.nv_alloc.specs.FreeValue.{FreeLists}
use Rattle.nv_steps.specs.Stopped.{Cut, MovedHere, MovedOver, Unlinked}
use Rattle.nv_rows.specs.Unused.{unused_number}
use Rattle.nv_calls.specs.Effects.{Logs, Makes}
use Rattle.nv_calls.specs.Growing.{TableGrew}
use Rattle.nv_calls.specs.Mount.{Mount}

-- The region has this superblock, and its outcome has no faults, and these rows and these free lists.
pub record RecoversTo (left : Region) (l : Layout) (rows : List Row) (free : List (List Run)) : Type 0 where
  pub sup : IsSuper left l.sup
  pub shows : (o : Outcome) → IsOutcome left o → SameOutcome (faultless_outcome l rows free) o

-- Recovery finds what was mounted: the rows, the free lists and the tree.
abbrev pub IsAsMounted : Region → Layout → List Row → List (List Run) → Region → Type 0
IsAsMounted R l rows free left = RecoversTo left l rows free × SameTree (tree_of (undone l.sup left) rows) (tree_of R rows)

-- Recovery finds rows and free lists whose tree is this one, in a region with these logs.
pub record IsAsMade (l : Layout) (made : Tree) (Logged : Region → Type 0) (left : Region) : Type 0 where
  pub rows : List Row
  pub free : List (List Run)
  pub recovers : RecoversTo left l rows free
  pub tree : SameTree (tree_of (undone l.sup left) rows) made
  pub logs : Logged (undone l.sup left)

-- Recovery finds what was mounted, or what a call makes of it.
abbrev pub StopLeaves : Region → Layout → List Row → List (List Run) → Tree → (Region → Type 0) → Region → Type 0
StopLeaves R l rows free made Logged left = ∥ (IsAsMounted R l rows free left ⊎ IsAsMade l made Logged left) ∥₁

-- the same of a call on a mounted file system, by the names of a path
abbrev pub LeavesCall : {P : Type 0} → Makes P → Logs P → Region → Mount P → List (List ℕ) → Region → Type 0
LeavesCall makes logs R m names left = StopLeaves R m.layout m.rows m.free.pools (makes R m names) (logs R m names) left

-- Tables and free lists are those that are mounted. Or no number of the CPU's table was unused, in version 2, and it grew.
abbrev pub MayHaveGrown : {P : Type 0} → Mount P → ℕ → Layout → List (List Run) → Type 0
MayHaveGrown m cpu l free = ((l ≡ m.layout) × (free ≡ m.free.pools))
    ⊎ ((m.layout.sup.version ≡ 2) × (unused_number m.layout m.rows cpu ≡ None) × TableGrew m.layout m.free.pools cpu l free)

-- The same of a call by which the table of a CPU may grow: by such tables and free lists recovery finds what was mounted, or what the
-- call makes of it.
abbrev pub StopGrows : {P : Type 0} → ℕ → Region → Mount P → Tree → (Region → Type 0) → Region → Type 0
StopGrows cpu R m made Logged left = ∥ ((l : Layout) × (free : List (List Run)) × MayHaveGrown m cpu l free × (IsAsMounted R l m.rows free left ⊎ IsAsMade l made Logged left)) ∥₁

-- the same by the names of a path
abbrev pub LeavesGrowing : {P : Type 0} → ℕ → Makes P → Logs P → Region → Mount P → List (List ℕ) → Region → Type 0
LeavesGrowing cpu makes logs R m names left = StopGrows cpu R m (makes R m names) (logs R m names) left

-- Recovery finds what is mounted.
abbrev pub LeavesMounted : {P : Type 0} → Region → Mount P → Region → Type 0
LeavesMounted R m left = ∥ (IsAsMounted R m.layout m.rows m.free.pools left) ∥₁

-- What a stop leaves of a format: the region before it, one without an outcome, since it is refused for its magic, or the new one.
abbrev pub LeavesFormat : Region → Super → ℕ → Region → Type 0
LeavesFormat old s time left = (left ≡ old) ⊎ ((IsRefused left Magic × ((o : Outcome) → IsOutcome left o → ⊥)) ⊎ IsFormatted old left s time)

-- A name of a file went, and a link where it has others. Else the file went with the name.
abbrev pub Released : Region → Layout → FreeLists → ℕ → Row → Row → List ℕ → ℕ → Region → Type 0
Released R l free cpu row file name time S = ((1 < file.numbers.links) × Unlinked R l free cpu row file name time S) ⊎ ((file.numbers.links ≤ 1) × Cut R l free cpu row file.inode time name S)

-- An inode got another name: in its directory, or in another.
abbrev pub Renamed : Region → Layout → FreeLists → ℕ → ℕ → ℕ → Row → Row → ℕ → List ℕ → List ℕ → ℕ → Region → Type 0
Renamed R l free cpu place end from to i name other time S = ((place ≡ end) × MovedHere R l free cpu from i name other time S) ⊎ ((place ≢ end) × MovedOver R l free cpu from to i name other time S)

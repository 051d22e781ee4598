-- What a call keeps of a mounted file system, and what a run of calls does, and when they stop it.
use Rattle.std.specs.Prelude.{◌≡◌, ◌≢◌, ◌⊎◌, ◌+◌, ◌≤◌, ◌↔◌, false, List, [], take, Result, Ok, Err, IsTrue, IfErr, OnOk, MatchResult}
use Rattle.nv_region.specs.Region.{Region, size}
use Rattle.nv_region.specs.Fuses.{FuseState, KeepsFuse}
use Rattle.nv_super.specs.Layout.{Layout}
use Rattle.nv_inode.specs.Upgraded.{upgraded_layout}
use Rattle.nv_tree.specs.Tree.{Tree}
use Rattle.nv_tree.specs.declared.refusal.Refusal.{Refusal}
use Rattle.nv_tree.specs.declared.refusal.Refusal.TheVariants.{Stopped}
use Rattle.nv_paths.specs.Spots.{new_number}
use Rattle.nv_calls.specs.Mount.{Mount, shown}
use Rattle.nv_calls.specs.Same.{IsLaidFor, KeepsMount, GrowsWhereFull, SameMount}
use Rattle.nv_history.specs.declared.calls.Call.{Call}
use Rattle.nv_history.specs.declared.runs.Halted.{Halted}
use Rattle.nv_history.specs.Making.{AreMade, ChainsGrow, grow_tables, has_upgrade, super_behind, supers_behind}
use Rattle.nv_history.specs.Said.{Said, Create, MakeDirectory, Upgrade}

-- ---- tables

-- How the tables are laid out behind a call that was made. Where it makes an inode whose number had no slot, the table of its CPU has
-- grown by a block, in version 2. `upgrade` makes them those of version 2. No other call changes them.
abbrev pub IsLaidBy : {P : Type 0} → Said → Mount P → Layout → Type 0
IsLaidBy (Create cpu path mode time) m after = GrowsWhereFull m cpu after × IsLaidFor m.layout cpu (new_number m.layout m.rows cpu) after
IsLaidBy (MakeDirectory cpu path mode time) m after = GrowsWhereFull m cpu after × IsLaidFor m.layout cpu (new_number m.layout m.rows cpu) after
IsLaidBy Upgrade m after = after ≡ upgraded_layout m.layout
IsLaidBy _ m after = after ≡ m.layout

-- And behind one that was refused: a stop may come when the table has grown and no inode was made.
abbrev pub MayBeLaid : {P : Type 0} → Said → Mount P → Layout → Type 0
MayBeLaid (Create cpu path mode time) m after = GrowsWhereFull m cpu after
MayBeLaid (MakeDirectory cpu path mode time) m after = GrowsWhereFull m cpu after
MayBeLaid _ m after = after ≡ m.layout

-- ---- calls

-- A mount that was stopped before answers so and stays as it was, as does what was mounted with faults. Each refusal but a stop leaves
-- all as it was. The mount is stopped just where the call answers so, and the fuse has burnt then. Superblock and tables are those that
-- the call leaves where it is made. Where it is refused the superblock is as before, also by a stop, and the tables are too, but that
-- one may have grown. The faults, whether the mount is read-only and how long the region is don't change. A fuse that has burnt stays
-- so, as does a memory that is open up to the region's end.
pub record KeepsCalled {P T : Type 0} (region : P → Region) (fuse : P → FuseState) (call : Said) (old new : Mount P) (result : Result T Refusal) : Type 0 where
  pub stopped_before : IsTrue old.stopped → (result ≡ Err Stopped) × (new ≡ old)
  pub unchanged : IfErr result (λ e. (e ≡ Stopped → ⊥) → SameMount old new)
  pub stopped : old.stopped ≡ false → (IsTrue new.stopped → (result ≡ Err Stopped) × IsTrue (fuse new.memory).has_burnt) × (result ≡ Err Stopped → IsTrue new.stopped)
  pub sup : MatchResult result (λ _. new.sup ≡ super_behind old.sup call) (λ _. new.sup ≡ old.sup)
  pub laid : MatchResult result (λ _. IsLaidBy call old new.layout) (λ _. MayBeLaid call old new.layout)
  pub faults : new.faults ≡ old.faults
  pub mode : new.read_only ≡ old.read_only
  pub length : size (region new.memory) ≡ size (region old.memory)
  pub keeps_fuse : KeepsFuse (λ limit. size (region old.memory) ≤ limit) (fuse old.memory) (fuse new.memory)
  pub read_only : IsTrue old.read_only → SameMount old new

-- ---- runs

-- The calls of a run that may have changed something, by its answer: those that were made, and with them the one that was stopped.
abbrev pub AreBegun : {T : Type 0} → List Call → Result T Halted → List Call → Type 0
AreBegun calls (Ok made) begun = begun ≡ calls
AreBegun calls (Err halted) begun = ((halted.refusal ≡ Stopped) × (begun ≡ take (halted.made + 1) calls)) ⊎ ((halted.refusal ≢ Stopped) × (begun ≡ take halted.made calls))

-- A mount that was stopped before stays as it was, and no call is made. One that runs is stopped just where a call answers so, and
-- the fuse has burnt then. What no call changes stays. The superblock is the one that the calls leave that were made. Chains only grow,
-- and none does where no call that was begun lets a table grow. Where a call is refused, those in front of it make a tree.
pub record KeepsRun {P T : Type 0} (region : P → Region) (fuse : P → FuseState) (calls : List Call) (old new : Mount P) (result : Result T Halted) : Type 0 where
  pub stopped_before : IsTrue old.stopped → new ≡ old
  pub none_made : IsTrue old.stopped → MatchResult result (λ _. calls ≡ []) (λ halted. halted.made ≡ 0)
  pub runs : OnOk result (new.stopped ≡ old.stopped)
  pub stopped : IfErr result (λ halted. (halted.refusal ≡ Stopped) ↔ IsTrue new.stopped)
  pub burnt : old.stopped ≡ false → IsTrue new.stopped → IsTrue (fuse new.memory).has_burnt
  pub keeps : (begun : List Call) → AreBegun calls result begun → has_upgrade begun ≡ false → grow_tables old.sup begun ≡ false → KeepsMount old new
  pub sup : MatchResult result (λ _. new.sup ≡ supers_behind old.sup calls) (λ halted. new.sup ≡ supers_behind old.sup (take halted.made calls))
  pub chains : ChainsGrow old.layout new.layout
  pub stays : (begun : List Call) → AreBegun calls result begun → grow_tables old.sup begun ≡ false → new.layout.chains ≡ old.layout.chains
  pub faults : new.faults ≡ old.faults
  pub mode : new.read_only ≡ old.read_only
  pub front : IfErr result (λ halted. (t : Tree) × AreMade old.sup (take halted.made calls) (shown region old) t)
  pub length : size (region new.memory) ≡ size (region old.memory)
  pub keeps_fuse : KeepsFuse (λ limit. size (region old.memory) ≤ limit) (fuse old.memory) (fuse new.memory)

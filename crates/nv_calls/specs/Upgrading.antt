-- What `upgrade` makes of a mounted file system, and what it keeps, whatever comes of it.
use Rattle.std.specs.Prelude.{◌≡◌, ◌⊎◌, ◌≤◌, false, Result, Err, IfErr, IsTrue}
use Rattle.nv_region.specs.Region.{Region, size}
use Rattle.nv_region.specs.Fuses.{FuseState, KeepsFuse}
use Rattle.nv_inode.specs.Upgraded.{IsUpgraded, upgraded, upgraded_layout}
use Rattle.nv_tree.specs.declared.refusal.Refusal.{Refusal}
use Rattle.nv_tree.specs.declared.refusal.Refusal.TheVariants.{Stopped}
use Rattle.nv_calls.specs.Mount.{Mount}
use Rattle.nv_calls.specs.Stopped.{IsAsMounted}

-- The version is 2 and the chains are empty, in the region and in what stands for it; all else in the region is as it was. The rows
-- and the free lists are the same.
pub record Upgrades {P : Type 0} (region : P → Region) (old new : Mount P) : Type 0 where
  pub stored : IsUpgraded (region old.memory) old.sup.cpus (region new.memory)
  pub sup : new.sup ≡ upgraded old.sup
  pub layout : new.layout ≡ upgraded_layout old.layout
  pub rows : new.rows ≡ old.rows
  pub free : new.free ≡ record old.free { sup = upgraded old.free.sup }

-- A mount that was stopped before answers so and stays as it was, as does what was mounted with faults. Each refusal but a stop leaves
-- all as it was. Where it is refused the tables are as they were, also by a stop. The mount is stopped just where the call answers
-- so, and the fuse has burnt then. The rows, the faults, whether the mount is read-only and how long the region is don't change. A
-- fuse that has burnt stays so, as does a memory that is open up to the region's end.
pub record KeepsUpgrade {P T : Type 0} (region : P → Region) (fuse : P → FuseState) (old new : Mount P) (result : Result T Refusal) : Type 0 where
  pub stopped_before : IsTrue old.stopped → (result ≡ Err Stopped) × (new ≡ old)
  pub unchanged : IfErr result (λ e. (e ≡ Stopped → ⊥) → new ≡ old)
  pub tables : IfErr result (λ e. (new.sup ≡ old.sup) × (new.layout ≡ old.layout))
  pub stopped : old.stopped ≡ false → (IsTrue new.stopped → (result ≡ Err Stopped) × IsTrue (fuse new.memory).has_burnt) × (result ≡ Err Stopped → IsTrue new.stopped)
  pub rows : new.rows ≡ old.rows
  pub faults : new.faults ≡ old.faults
  pub mode : new.read_only ≡ old.read_only
  pub length : size (region new.memory) ≡ size (region old.memory)
  pub keeps_fuse : KeepsFuse (λ limit. size (region old.memory) ≤ limit) (fuse old.memory) (fuse new.memory)
  pub read_only : IsTrue old.read_only → new ≡ old

-- Recovery finds what was mounted, in the version that it had or in version 2.
abbrev pub LeavesUpgrade : {P : Type 0} → Region → Mount P → Region → Type 0
LeavesUpgrade R m left = ∥ (IsAsMounted R m.layout m.rows m.free.pools left ⊎ IsAsMounted R (upgraded_layout m.layout) m.rows m.free.pools left) ∥₁

-- What every step keeps, and how many free blocks it needs.
use Rattle.std.specs.Prelude.{◌≡◌, ℕ, ◌≤◌, Result, IsTrue, IfErr, OnOk}
use Rattle.nv_region.specs.Region.{Region, size}
use Rattle.nv_region.specs.Stops.{Choices, NothingPending}
use Rattle.nv_region.specs.Fuses.{FuseState, KeepsFuse}
use Rattle.nv_alloc.specs.FreeValue.{FreeLists}
use Rattle.nv_alloc.specs.Taking.{all_blocks}
use Rattle.nv_tree.specs.declared.refusal.Refusal.{Refusal}
use Rattle.nv_tree.specs.declared.refusal.Refusal.TheVariants.{Stopped}
use Rattle.nv_steps.specs.Steps.{RefusesStep}

-- Where a step is stopped, the fuse has burnt. Whatever comes of it, the free lists stay those of their superblock, the region
-- stays as long, and a fuse that has burnt stays so, as does a memory that is open up to the region's end.
pub record KeepsStep {M T : Type 0} (region : M → Region) (fuse : M → FuseState) (old new : M) (before after : FreeLists) (result : Result T Refusal) : Type 0 where
  pub stopped : IfErr result (λ e. e ≡ Stopped → IsTrue (fuse new).has_burnt)
  pub lists : after.sup ≡ before.sup
  pub length : size (region new) ≡ size (region old)
  pub keeps_fuse : KeepsFuse (λ limit. size (region old) ≤ limit) (fuse old) (fuse new)

-- The same, and where it is done, nothing is pending.
pub record SettlesStep {M T : Type 0} (region : M → Region) (may_hold : M → Choices) (fuse : M → FuseState) (old new : M) (before after : FreeLists) (result : Result T Refusal) : Type 0 where
  pub keeps : KeepsStep region fuse old new before after result
  pub open keeps use *
  pub settled : OnOk result (NothingPending (region new) (may_hold new))

-- A step is done only where so many blocks are free, and is refused for want of them, for want of memory, or by a stop.
pub record NeedsFree {T : Type 0} (count : ℕ) (free : FreeLists) (result : Result T Refusal) : Type 0 where
  pub enough : OnOk result (count ≤ all_blocks free.pools)
  pub refused : IfErr result (λ e. RefusesStep e count free)

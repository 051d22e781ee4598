-- What a call that stores does to its memory, whatever it is for. The memory is seen through what it reads, what a stop may
-- leave of it, and its fuse.
use Rattle.std.specs.Prelude.{◌≡◌, ◌<◌, ℕ, Result, OnOk, false, is_err}
use Rattle.nv_region.specs.Region.{Region, size}
use Rattle.nv_region.specs.Stops.{Choices, LeavesOnly, NothingPending}
use Rattle.nv_region.specs.Fuses.{FuseState, KeepsFuse}
use Rattle.nv_region.specs.Stored.{StoresOnly}

-- A call stores at most these, also where it is refused, and fences them. It is refused exactly where the fuse has burnt by
-- its end. Behind says which addresses lie behind all that it stores.
pub record StoresAndFences {M T E : Type 0} (region : M → Region) (may_hold : M → Choices) (fuse : M → FuseState) (these : Choices) (behind : ℕ
    → Type 0) (old new : M) (result : Result T E) : Type 0 where
  pub wrote : StoresOnly these (region old) (region new) (may_hold old) (may_hold new)
  pub stopped : is_err result ≡ (fuse new).has_burnt
  pub keeps_fuse : KeepsFuse behind (fuse old) (fuse new)
  pub settled : OnOk result (NothingPending (region new) (may_hold new))

-- The region as it reads has P, also where the call is refused, and so has each that a stop leaves, if all stores before the
-- call were fenced.
pub record AtAnyMoment {M : Type 0} (region : M → Region) (may_hold : M → Choices) (old new : M) (P : Region → Type 0) : Type 0 where
  pub reads : P (region new)
  pub any_stop : NothingPending (region old) (may_hold old) → LeavesOnly (region new) (may_hold new) P

-- A call stores at most these, also where it is refused, and need not fence them. The region stays as long as it is.
pub record StoresUnfenced {M : Type 0} (region : M → Region) (may_hold : M → Choices) (fuse : M → FuseState) (these : Choices) (behind : ℕ → Type 0) (old new : M) : Type 0 where
  pub wrote : StoresOnly these (region old) (region new) (may_hold old) (may_hold new)
  pub len : size (region new) ≡ size (region old)
  pub keeps_fuse : KeepsFuse behind (fuse old) (fuse new)

-- So does a call that is given so many things to store. Where there is none, the memory stays as it was; else it is refused
-- exactly where the fuse has burnt by its end.
pub record StoresEach {M T E : Type 0} (region : M → Region) (may_hold : M → Choices) (fuse : M → FuseState) (these : Choices) (behind : ℕ
    → Type 0) (count : ℕ) (old new : M) (result : Result T E) : Type 0 where
  pub stores : StoresUnfenced region may_hold fuse these behind old new
  pub open stores use *
  pub nothing : count ≡ 0 → (is_err result ≡ false) × (new ≡ old)
  pub stopped : 0 < count → is_err result ≡ (fuse new).has_burnt

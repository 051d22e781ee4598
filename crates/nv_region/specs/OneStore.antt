-- What one store does to a memory, beside what it does to any.
use Rattle.std.specs.Prelude.{◌≡◌, ◌||◌, ℕ, Result, OnOk, nat_le}
use Rattle.nv_region.specs.RegionState.{RegionState, after_store, burns_at_store, one_passed}
use Rattle.nv_region.specs.ImageState.{ImageState}

-- The fuse burns where it says, and a store that passes is counted. The words at the last fence stay.
pub record PassesFuse {T E : Type 0} (old : RegionState) (at value : ℕ) (new : RegionState) (result : Result T E) : Type 0 where
  pub burns : new.burnt ≡ (old.burnt || burns_at_store old.fuse at)
  pub counts : OnOk result (new.fuse ≡ one_passed old.fuse)
  pub fenced : new.fenced ≡ old.fenced
  pub after : new ≡ after_store old at value

-- A store is refused behind the front, and each one from then on. The front stays as long.
pub record StoresInFront (old : ImageState) (at : ℕ) (new : ImageState) : Type 0 where
  pub burns : new.burnt ≡ (old.burnt || nat_le old.front at)
  pub front : new.front ≡ old.front

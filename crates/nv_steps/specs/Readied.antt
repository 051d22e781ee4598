-- The blocks and the room that a step has ready.
use Rattle.std.specs.Prelude.{◌≡◌, ℕ, List, length, Result, OnOk}
use Rattle.nv_alloc.specs.FreeValue.{FreeLists}
use Rattle.nv_tree.specs.declared.refusal.Refusal.{Refusal}
use Rattle.nv_steps.specs.Keeping.{NeedsFree}
use Rattle.nv_steps.specs.Taken.{TakesEach}

-- These blocks were taken by the rule one after another, and are so many.
pub record TakesCount (old : FreeLists) (cpu : ℕ) (blocks : List ℕ) (count : ℕ) (new : FreeLists) : Type 0 where
  pub each : TakesEach old cpu blocks new
  pub count_is : length blocks ≡ count

-- A step is done only where so many blocks are free, and is refused for want of them, for want of memory, or by a stop. Where it
-- is done, there is this room.
pub record NeedsRoom {T : Type 0} (count : ℕ) (Room : Type 0) (free : FreeLists) (result : Result T Refusal) : Type 0 where
  pub needs : NeedsFree count free result
  pub open needs use *
  pub room : OnOk result Room

-- What a call keeps that rolls journals back.
use Rattle.std.specs.Prelude.{◌≤◌, ◌-◌, ◌*◌, Result, IsTrue, OnOk, OnErr}
use Rattle.nv_region.specs.Region.{HasBlocks, Region}
use Rattle.nv_region.specs.Stops.{Choices, NothingPending}
use Rattle.nv_region.specs.Fuses.{FuseState, KeepsFuse}
use Rattle.nv_region.specs.Stored.{SameOutside, StoresOnly}
use Rattle.nv_super.specs.Layout.{Layout}
use Rattle.nv_inode.specs.Permitted.{slots_end}

-- A call stores at most these, each behind the superblock's block and in front of the end of the slots. Where it is refused,
-- the fuse has burnt.
pub record PutsBack {M T E : Type 0} (region : M → Region) (may_hold : M → Choices) (fuse : M → FuseState) (l : Layout) (these : Choices) (old new : M) (result : Result T E) : Type 0 where
  pub wrote : StoresOnly these (region old) (region new) (may_hold old) (may_hold new)
  pub outside : SameOutside (region old) 4096 (4096 * (slots_end l.sup - 1)) (region new)
  pub stopped : OnErr result (IsTrue (fuse new).has_burnt)
  pub keeps_fuse : KeepsFuse (λ limit. 4096 * slots_end l.sup ≤ limit) (fuse old) (fuse new)

-- So does a call that may find nothing to do. The region keeps its blocks, and where nothing was pending nothing is.
pub record RollsBackOnly {M T E : Type 0} (region : M → Region) (may_hold : M → Choices) (fuse : M → FuseState) (l : Layout) (these : Choices) (old new : M) (result : Result T E) : Type 0 where
  pub puts_back : PutsBack region may_hold fuse l these old new result
  pub open puts_back use *
  pub blocks : HasBlocks (region new) l.sup.blocks
  pub settled : NothingPending (region old) (may_hold old) → OnOk result (NothingPending (region new) (may_hold new))

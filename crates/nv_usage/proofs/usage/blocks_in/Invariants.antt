use Rattle.std.proofs.Common.{◌≡◌, take}
use Rattle.nv_usage.specs.Usage.{blocks_in}
use Rattle.nv_usage.proofs.usage.blocks_in.Given as goal

-- the extents so far were counted
abbrev pub invariant-loop-extent : goal.invariant-loop-extent
invariant-loop-extent l = l.blocks ≡ blocks_in (take l.extent-index l.extents)

use Rattle.std.proofs.Common.{◌≤◌, ◌+◌, take}
use Rattle.nv_steps.specs.LessNames.{GivesBlocks}
use Rattle.nv_steps.proofs.giving.give_blocks.Given as goal

abbrev pub invariant-loop-block : goal.invariant-loop-block
invariant-loop-block l = GivesBlocks l.initial.free (take l.block-index l.blocks) l.free × (l.initial.free.room ≤ l.free.room + l.block-index)

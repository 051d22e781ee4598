use Rattle.std.proofs.Common.{arith, map, refl, take, slice_index_or}
use Rattle.nv_alloc.specs.Taking.{block_run}
use Rattle.nv_steps.proofs.GivenBlocks.{gives_more, next_block}
use Rattle.nv_steps.proofs.GivenPages.{joined_sup}
use Rattle.nv_steps.proofs.giving.give_blocks.Goals as goal

pub give_block-requires-clause-can : goal.give_block-requires-clause-can
give_block-requires-clause-can c = next_block c.args.free.now c.loop-block.free c.args.blocks.now c.loop-block.block-index (slice_index_or c.args.blocks.now c.loop-block.block-index 0) c.loop-block-test.true refl c.requires.own c.loop-block.invariant.0

pub loop-block-preserved : goal.loop-block-preserved
loop-block-preserved c = (
  gives_more c.args.free.now c.loop-block.free c.args.blocks.now c.loop-block.block-index (slice_index_or c.args.blocks.now c.loop-block.block-index 0) c.loop-block-test.true refl c.give_block.new.free c.loop-block.invariant.0 c.give_block.ensures.given,
  omega (arith, c.loop-block.invariant.1, c.give_block.ensures.room),
)

pub returns-clause-lists : goal.returns-clause-lists
returns-clause-lists c = joined_sup c.args.free.now c.loop-block.free (map block_run (take c.loop-block.block-index c.args.blocks.now)) c.loop-block.invariant.0

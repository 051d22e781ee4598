use Rattle.std.proofs.Common.{arith, inl, inr}
use Rattle.nv_steps.proofs.GivenPages.{gives_end, gives_next, gives_none, joined_sup, next_some}
use Rattle.nv_steps.proofs.giving.give_pages.Goals as goal

pub loop-page-init : goal.loop-page-init
loop-page-init c = (omega arith, gives_none c.args.free.now c.args.index.now c.args.first, c.requires.room, inr (omega arith))

pub give_block-requires-clause-can : goal.give_block-requires-clause-can
give_block-requires-clause-can c = next_some c.requires.own c.loop-page.invariant.0 c.loop-page.invariant.1 c.get.result c.get.ensures

pub give_block-requires-clause-room : goal.give_block-requires-clause-room
give_block-requires-clause-room c = omega (arith, c.loop-page.invariant.2, c.loop-page-test.true)

pub loop-page-preserved : goal.loop-page-preserved
loop-page-preserved c = (omega (arith, c.loop-page.invariant.0), gives_next c.loop-page.invariant.0 c.loop-page.invariant.1 c.get.result c.get.ensures c.give_block.ensures.given, omega (arith, c.loop-page.invariant.2, c.give_block.ensures.room, c.loop-page-test.true), inl (omega (arith, c.loop-page-test.true)))

pub returns-clause-given : goal.returns-clause-given
returns-clause-given c = gives_end c.loop-page.invariant.1 c.loop-page-test.false c.loop-page.invariant.3

pub returns-clause-lists : goal.returns-clause-lists
returns-clause-lists c = joined_sup c.args.free.now c.loop-page.free c.loop-page.invariant.1.runs c.loop-page.invariant.1.joined

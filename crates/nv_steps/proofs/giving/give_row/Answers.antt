use Rattle.std.proofs.Common.{List, ℕ, subst}
use Rattle.nv_steps.specs.LessNames.{GivesBlocks}
use Rattle.nv_steps.proofs.GivenBlocks.{gives_row, maps_still}
use Rattle.nv_steps.proofs.giving.give_row.Goals as goal

pub give_pages-requires-clause-own : goal.give_pages-requires-clause-own
give_pages-requires-clause-own c = maps_still c.requires.own (subst (λ (bs : List ℕ). GivesBlocks c.args.free.now bs c.give_blocks.new.free) c.deref.ensures c.give_blocks.ensures.given)

pub returns-clause-given : goal.returns-clause-given
returns-clause-given c = gives_row c.requires.own (subst (λ (bs : List ℕ). GivesBlocks c.args.free.now bs c.give_blocks.new.free) c.deref.ensures c.give_blocks.ensures.given) c.div_ceil.ensures c.give_pages.ensures.given

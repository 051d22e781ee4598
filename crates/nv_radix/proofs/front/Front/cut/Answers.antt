use Rattle.std.proofs.Common.{◌∙◌}
use Rattle.nv_radix.proofs.LeafSteps.{low_bits}
use Rattle.nv_radix.proofs.FirstPages.{Rises-first, first_cut, bits_cut, ready_cut, cut_no_more, kept_few}
use Rattle.nv_radix.proofs.front.Front.cut.Goals as goal

pub invariant_of-self : goal.invariant_of-self
invariant_of-self c = (
  kept_few c.self.inside.mapped _ c.args.first_page c.self.inside.blocks.items c.give_back.new.blocks.items (c.give_back.ensures ∙ c.truncate.ensures.items) (λ q. low_bits c.self.inside.mapped c.args.first_page q c.requires) c.self.invariant.0,
  bits_cut c.self.inside.mapped _ c.args.first_page c.self.inside.blocks.items c.give_back.new.blocks.items (c.give_back.ensures ∙ c.truncate.ensures.items) (λ q. low_bits c.self.inside.mapped c.args.first_page q c.requires) c.self.invariant.1,
)

pub returns-clause-blocks : goal.returns-clause-blocks
returns-clause-blocks c = λ p. rw (← c.self.view_is) (first_cut c.self.inside.mapped _ c.args.first_page c.self.inside.blocks.items c.give_back.new.blocks.items (c.give_back.ensures ∙ c.truncate.ensures.items) (λ q. low_bits c.self.inside.mapped c.args.first_page q c.requires) p)

pub returns-clause-ready : goal.returns-clause-ready
returns-clause-ready c = λ p l. rw (← c.self.view_is) (ready_cut c.self.inside.mapped _ c.args.first_page c.self.inside.blocks.items c.give_back.new.blocks.items (c.give_back.ensures ∙ c.truncate.ensures.items) (λ q. low_bits c.self.inside.mapped c.args.first_page q c.requires) p l)

pub returns-clause-no_more : goal.returns-clause-no_more
returns-clause-no_more c = λ p e. rw (← c.self.view_is) (cut_no_more c.self.inside.mapped _ c.args.first_page c.self.inside.blocks.items c.give_back.new.blocks.items (c.give_back.ensures ∙ c.truncate.ensures.items) (λ q. low_bits c.self.inside.mapped c.args.first_page q c.requires) p e)

pub returns-clause-rises : goal.returns-clause-rises
returns-clause-rises c = Rises-first _ c.give_back.new.blocks.items (kept_few c.self.inside.mapped _ c.args.first_page c.self.inside.blocks.items c.give_back.new.blocks.items (c.give_back.ensures ∙ c.truncate.ensures.items) (λ q. low_bits c.self.inside.mapped c.args.first_page q c.requires) c.self.invariant.0)

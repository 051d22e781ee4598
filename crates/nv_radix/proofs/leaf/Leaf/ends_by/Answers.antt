use Rattle.std.proofs.Common.{◌≡◌, ◌/◌, ◌^◌, arith}
use Rattle.std.proofs.lemmas.Bool.Decides.{nat_tests}
use Rattle.nv_radix.proofs.LeafSteps.{past_leaf, clear_page, no_more_bits}
use Rattle.nv_radix.proofs.leaf.Leaf.ends_by.Goals as goal

pub returns-then-end-ge-LEAF_PAGES : goal.returns-then-end-ge-LEAF_PAGES
returns-then-end-ge-LEAF_PAGES c = λ _ p past. rw (← c.self.view_is) (past_leaf c.self.inside.mapped c.self.inside.blocks.items p c.self.invariant (omega (arith, past)))

pub returns-else-end-ge-LEAF_PAGES : goal.returns-else-end-ge-LEAF_PAGES
returns-else-end-ge-LEAF_PAGES c = λ h p past. rw (← c.self.view_is) (let none : c.self.inside.mapped / 2 ^ c.args.end ≡ 0 = grind (arith, nat_tests, h) in clear_page c.self.inside.mapped c.self.inside.blocks.items p (no_more_bits c.self.inside.mapped c.args.end p none past))

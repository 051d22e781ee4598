use Rattle.std.proofs.Common.{◌≡◌, get_or, sym, ◌∙◌}
use Rattle.std.proofs.lemmas.Nat.Bits.{shr_and_one}
use Rattle.nv_radix.proofs.Leaves.{block_at-past_leaf}
use Rattle.nv_radix.proofs.LeafSteps.{leaf_found, leaf_unset}
use Rattle.nv_radix.proofs.places.block_of.Goals as goal

pub returns-in-Some : goal.returns-in-Some
returns-in-Some c =
    let found = c.in-Some.ensures.lookup in
    let is : c.in-Some.block.now ≡ get_or c.args.blocks.now c.args.place 0 = found.3.1 0 in
    leaf_found c.args.mapped c.args.blocks.now c.args.place _ found.3.0 (sym (shr_and_one c.args.mapped c.args.place) ∙ c.if-mapped-place-eq1.true) is

pub returns-in_default-2 : goal.returns-in_default-2
returns-in_default-2 c =
    let past = rw c.in_default.is at c.get.ensures.lookup in
    sym (block_at-past_leaf c.args.mapped c.args.blocks.now c.args.place past.3)

pub returns-in_default : goal.returns-in_default
returns-in_default c = leaf_unset c.args.mapped c.args.blocks.now c.args.place (λ e. c.if-mapped-place-eq1.false (shr_and_one c.args.mapped c.args.place ∙ e))

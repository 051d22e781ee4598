use Rattle.std.proofs.Common.{◌≡◌, ℕ, ◌<◌, sym, ap, ◌∙◌, subst, arith}
use Rattle.nv_outcome.specs.Answer.{outcome_of}
use Rattle.nv_map.specs.Map.{AreCells}
use Rattle.nv_map.specs.Shares.{shares_of}
use Rattle.nv_map.proofs.Shared.{one_each, some_each, few_each}
use Rattle.nv_map.proofs.cells.cells_of.Goals as goal

pub shares_of-requires-clause-some : goal.shares_of-requires-clause-some
shares_of-requires-clause-some c =
    let sup = c.args.recovered.now.sup in
    subst (λ (n : ℕ). 0 < n) (sym c.in_ok-cells.ensures.each) (some_each sup.blocks c.args.most (omega (arith, c.requires.layout.blocks_from)))

pub shares_of-requires-clause-small : goal.shares_of-requires-clause-small
shares_of-requires-clause-small c =
    let sup = c.args.recovered.now.sup in
    let few = few_each sup.blocks c.args.most in
    omega (arith, c.in_ok-cells.ensures.each, few, c.requires.layout.blocks_to)

pub shares_of-requires-clause-few : goal.shares_of-requires-clause-few
shares_of-requires-clause-few c =
    let most = c.in_ok-blocks.ensures.most in
    omega (arith, most, c.requires.layout.blocks_to)

pub returns : goal.returns
returns c =
    let o = outcome_of c.args.recovered.now in
    let sup = c.args.recovered.now.sup in
    let blocks = c.in_ok-blocks.blocks in
    let one : blocks.each ≡ 1 = c.in_ok-blocks.ensures.each ∙ one_each sup.blocks (omega (arith, c.requires.layout.blocks_from)) in
    record {
      tells = c.in_ok-cells.ensures;
      shares = (blocks.uses.items, subst (λ (n : ℕ). AreCells o sup.blocks n blocks.uses.items) one c.in_ok-blocks.ensures, c.in_ok-shares.ensures ∙ ap (shares_of c.in_ok-cells.cells.each) c.deref.ensures.value);
    }

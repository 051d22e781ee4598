use Rattle.std.proofs.Common.{eq-eqb, ◌∙◌, rules, ◌≡◌, length}
use Rattle.nv_names.proofs.Listing.{found_in-empty, empty-found_in}
use Rattle.nv_names.proofs.index.NameIndex.is_empty.Goals as goal

pub returns : goal.returns
returns c = (
  λ none. let zero : length c.args.self.now.names ≡ 0 = search (rules, c.len.ensures.exact) in found_in-empty _ zero,
  λ none. eq-eqb c.len.result 0 (c.len.ensures.exact ∙ empty-found_in _ none),
)

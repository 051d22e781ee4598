use Rattle.std.proofs.Common.{◌∙◌, ◌++◌, ℕ, List, Bor, map, ap}
use Rattle.nv_host.specs.Names.{names_listed}
use Rattle.nv_host.proofs.Listed.{lists_names}
use Rattle.nv_host.proofs.names.names_in.Goals as goal

abbrev shown : List (Bor (List ℕ)) → List (List ℕ)
shown names = map (λ (name : Bor (List ℕ)). name.now) names

pub returns : goal.returns
returns c = lists_names c.args.listing.now c.push_names.new.names.items c.sort_unstable.new.self.items
    (c.in_ok-push_names.ensures ∙ ap (λ (none : List (Bor (List ℕ))). shown none ++ names_listed c.args.listing.now) c.new-names.ensures.items)
    c.sort_unstable.ensures.permutation c.sort_unstable.ensures.sorted

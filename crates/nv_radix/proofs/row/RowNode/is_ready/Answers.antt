use Rattle.std.proofs.Common.{◌≡◌, false, [], get_or, map, ap, sym, ◌∙◌, arith}
use Rattle.std.proofs.lemmas.List.{length-map, get_or_past}
use Rattle.nv_radix.specs.Pages.{is_ready}
use Rattle.nv_radix.proofs.RowSteps.{told_by_node, node_is}
use Rattle.nv_radix.proofs.row.RowNode.is_ready.Goals as goal

pub returns-in-Some : goal.returns-in-Some
returns-in-Some g c =
    let nodes = map g.N.Node.pages c.self.inside.nodes.items in
    let found = rw c.deref.ensures.value at c.in-Some.ensures.lookup in
    let is : g.N.Node.pages c.in-Some.node.now ≡ get_or nodes c.split-place.result.0 [] = node_is g.N.Node.pages c.self.inside.nodes.items c.split-place.result.0 c.in-Some.node.now found.3.0 (found.3.1 c.in-Some.node.now) in
    λ p e. rw (← c.self.view_is) (told_by_node g.N.Node.span nodes c.split-place.result.0 c.split-place.result.1 c.args.page _ c.split-place.ensures.whole c.split-place.ensures.low g.met.N.Node.whole c.self.invariant.0 (λ q f. c.is_ready.ensures q f ∙ ap (λ m. is_ready m q) is) p e)

pub returns-in-None : goal.returns-in-None
returns-in-None g c =
    let nodes = map g.N.Node.pages c.self.inside.nodes.items in
    let past = rw c.deref.ensures.value at c.in-None.ensures.lookup in
    let none : get_or nodes c.split-place.result.0 [] ≡ [] = get_or_past nodes c.split-place.result.0 [] (omega (arith, past.3, length-map c.self.inside.nodes.items g.N.Node.pages)) in
    λ p e. rw (← c.self.view_is) (told_by_node g.N.Node.span nodes c.split-place.result.0 c.split-place.result.1 c.args.page false c.split-place.ensures.whole c.split-place.ensures.low g.met.N.Node.whole c.self.invariant.0 (λ q f. sym (ap (λ m. is_ready m q) none)) p e)

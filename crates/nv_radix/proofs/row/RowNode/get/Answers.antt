use Rattle.std.proofs.Common.{◌≡◌, [], get_or, map, ap, sym, ◌∙◌, arith}
use Rattle.std.proofs.lemmas.List.{length-map, get_or_past}
use Rattle.nv_radix.specs.Pages.{block_at}
use Rattle.nv_radix.proofs.RowSteps.{block_at-page, node_is}
use Rattle.nv_radix.proofs.row.RowNode.get.Goals as goal

pub returns-in-Some : goal.returns-in-Some
returns-in-Some g c =
    let nodes = map g.N.Node.pages c.self.inside.nodes.items in
    let found = rw c.deref.ensures.value at c.in-Some.ensures.lookup in
    let is : g.N.Node.pages c.in-Some.node.now ≡ get_or nodes c.split-place.result.0 [] = node_is g.N.Node.pages c.self.inside.nodes.items c.split-place.result.0 c.in-Some.node.now found.3.0 (found.3.1 c.in-Some.node.now) in
    rw (← c.self.view_is) (c.get-in-Some.ensures ∙ ap (λ m. block_at m c.split-place.result.1) is ∙ sym (block_at-page g.N.Node.span nodes c.split-place.result.0 c.split-place.result.1 c.args.page c.split-place.ensures.whole c.split-place.ensures.low c.self.invariant.0))

pub returns-in-None : goal.returns-in-None
returns-in-None g c =
    let nodes = map g.N.Node.pages c.self.inside.nodes.items in
    let past = rw c.deref.ensures.value at c.in-None.ensures.lookup in
    rw (← c.self.view_is) (sym (block_at-page g.N.Node.span nodes c.split-place.result.0 c.split-place.result.1 c.args.page c.split-place.ensures.whole c.split-place.ensures.low c.self.invariant.0 ∙ ap (λ m. block_at m c.split-place.result.1) (get_or_past nodes c.split-place.result.0 [] (omega (arith, past.3, length-map c.self.inside.nodes.items g.N.Node.pages)))))

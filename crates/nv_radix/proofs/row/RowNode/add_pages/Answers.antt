use Rattle.std.proofs.Common.{◌≡◌, ◌+◌, ◌*◌, ◌<◌, length, get_or, map, take, [], ap, subst, ◌∙◌, sym, ◌++◌, arith}
use Rattle.std.proofs.lemmas.List.{length-map, take_all, get_or_default}
use Rattle.std.specs.List.{All}
use Rattle.nv_radix.specs.Nodes.{raised, in_row, IsNode}
use Rattle.nv_radix.specs.Extents.{AreExtents}
use Rattle.nv_radix.proofs.RowSteps.{AreExtents-node, node_is}
use Rattle.nv_radix.proofs.row.RowNode.add_pages.Goals as goal

pub loop-place-preserved : goal.loop-place-preserved
loop-place-preserved g c =
    let pages = g.N.Node.pages in
    let span = g.N.Node.span in
    let items = c.deref-node-items.result.now in
    let nodes = map pages items in
    let place = c.loop-place.place in
    let inside : place < length items = omega arith in
    let within : place < length nodes = omega (arith, inside, length-map items pages) in
    let all : All (IsNode span) nodes = subst (λ xs. All (IsNode span) (map pages xs)) (sym c.deref-node-items.ensures.value) c.self.invariant.0 in
    let is : pages c.node-item.result ≡ get_or nodes place [] = node_is pages items place c.node-item.result inside (c.node-item.is ∙ get_or_default items place _ _ inside) in
    let at : c.args.base + place * c.PAGES.result ≡ c.args.base + place * span = ap (λ n. c.args.base + place * n) (c.PAGES.ensures ∙ g.met.N.Child.spans) in
    λ m h a. AreExtents-node span c.args.base nodes place m c.loop-place.extents.items c.add_pages.new.extents.items all within h (λ n r old. subst (λ x. AreExtents (n ++ raised (c.args.base + place * span) x) c.add_pages.new.extents.items) is ((rw at at c.in_ok-add_pages.ensures) n r old)) (c.loop-place.invariant m h a)

pub returns : goal.returns
returns g c = λ m h a.
    let pages = g.N.Node.pages in
    let items = c.deref-node-items.result.now in
    let whole : take c.loop-place.place (map pages items) ≡ map pages c.self.inside.nodes.items = take_all c.loop-place.place (map pages items) (omega (arith, length-map items pages)) ∙ ap (map pages) c.deref-node-items.ensures.value in
    rw (← c.self.view_is) (subst (λ xs. AreExtents (m ++ raised c.args.base (in_row g.N.Node.span xs)) c.loop-place.extents.items) whole (c.loop-place.invariant m h a))

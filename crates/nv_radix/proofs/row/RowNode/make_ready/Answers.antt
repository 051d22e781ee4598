use Rattle.std.proofs.Common.{◌≡◌, ◌+◌, ◌*◌, ◌/◌, ◌<◌, ◌||◌, eqb, [], get_or, map, length, ap, ◌∙◌, arith}
use Rattle.std.proofs.lemmas.List.{length-map, get_or_default, length-set, map-set}
use Rattle.std.proofs.lemmas.List.Elements.{All-set}
use Rattle.std.proofs.Math.ListN.{set}
use Rattle.std.proofs.lemmas.Result.{on_ok_weaker, on_err_weaker}
use Rattle.nv_radix.specs.Pages.{block_at, is_ready}
use Rattle.nv_radix.specs.Nodes.{IsNode}
use Rattle.nv_radix.proofs.RowSteps.{blocks_by_node, ready_by_node, set_by_place, node_is, few_places, IsNode-row, ready_here, ready_there, on_any_err}
use Rattle.nv_radix.proofs.row.RowNode.make_ready.Goals as goal

pub returns-in_err-grow-clause-blocks : goal.returns-in_err-grow-clause-blocks
returns-in_err-grow-clause-blocks g c =
    λ p. rw (← c.self.view_is) (blocks_by_node g.N.Node.span (map g.N.Node.pages c.self.inside.nodes.items) (map g.N.Node.pages c.grow.new.nodes.items) (λ q old new. new ≡ old) g.met.N.Node.some c.self.invariant.0 (c.grow.ensures.nodes c.self.invariant.0) (λ j r l. ap (λ m. block_at m r) (c.grow.ensures.same j)) p)

pub returns-in_err-grow-clause-err : goal.returns-in_err-grow-clause-err
returns-in_err-grow-clause-err g c =
    on_any_err c.from_residual.result _ (λ p. rw (← c.self.view_is) (ready_by_node g.N.Node.span (map g.N.Node.pages c.self.inside.nodes.items) (map g.N.Node.pages c.grow.new.nodes.items) (λ q old new. new ≡ old) g.met.N.Node.some c.self.invariant.0 (c.grow.ensures.nodes c.self.invariant.0) (λ j r l. ap (λ m. is_ready m r) (c.grow.ensures.same j)) p))

pub returns-in_err-grow-clause-node : goal.returns-in_err-grow-clause-node
returns-in_err-grow-clause-node g c =
    let place = few_places g.N.Node.span c.split-place.result.0 c.split-place.result.1 c.args.page 64 c.split-place.ensures.whole c.requires in
    IsNode-row g.N.Node.span (map g.N.Node.pages c.grow.new.nodes.items) g.met.N.Node.some g.met.N.Node.whole (c.grow.ensures.nodes c.self.invariant.0) (omega (arith, length-map c.grow.new.nodes.items g.N.Node.pages, c.grow.ensures.few, c.self.invariant.1, place))

pub returns-clause-blocks : goal.returns-clause-blocks
returns-clause-blocks g c =
    let pages = g.N.Node.pages in
    let span = g.N.Node.span in
    let nodes = map pages c.self.inside.nodes.items in
    let items = c.grow.new.nodes.items in
    let grown = map pages items in
    let place = c.split-place.result.0 in
    let made = c.make_ready.new.self in
    let inside : place < length items = omega (arith, c.in_ok-grow.ensures.enough) in
    let there : place < length grown = omega (arith, inside, length-map items pages) in
    let is : pages c.index_mut.result.now ≡ get_or nodes place [] = node_is pages items place c.index_mut.result.now inside (c.index_mut.ensures.value ∙ get_or_default items place _ _ inside) ∙ c.grow.ensures.same place in
    let all = All-set (IsNode span) grown place (pages made) c.make_ready.ensures.node (c.grow.ensures.nodes c.self.invariant.0) in
    λ p. rw (map-set pages items place made, ← c.self.view_is) (blocks_by_node span nodes (set grown place (pages made)) (λ q old new. new ≡ old) g.met.N.Node.some c.self.invariant.0 all (λ j r l. set_by_place grown place (pages made) (λ j m. block_at m r ≡ block_at (get_or nodes j []) r) there (c.make_ready.ensures.blocks r ∙ ap (λ m. block_at m r) is) (λ j n. ap (λ m. block_at m r) (c.grow.ensures.same j)) j) p)

pub returns-clause-ready : goal.returns-clause-ready
returns-clause-ready g c =
    let pages = g.N.Node.pages in
    let span = g.N.Node.span in
    let nodes = map pages c.self.inside.nodes.items in
    let items = c.grow.new.nodes.items in
    let grown = map pages items in
    let place = c.split-place.result.0 in
    let made = c.make_ready.new.self in
    let inside : place < length items = omega (arith, c.in_ok-grow.ensures.enough) in
    let there : place < length grown = omega (arith, inside, length-map items pages) in
    let is : pages c.index_mut.result.now ≡ get_or nodes place [] = node_is pages items place c.index_mut.result.now inside (c.index_mut.ensures.value ∙ get_or_default items place _ _ inside) ∙ c.grow.ensures.same place in
    let all = All-set (IsNode span) grown place (pages made) c.make_ready.ensures.node (c.grow.ensures.nodes c.self.invariant.0) in
    on_ok_weaker c.make_ready.result (λ ready p. rw (map-set pages items place made, ← c.self.view_is) (ready_by_node span nodes (set grown place (pages made)) (λ q old new. new ≡ (eqb (q / 64) (c.args.page / 64) || old)) g.met.N.Node.some c.self.invariant.0 all (λ j r l. set_by_place grown place (pages made) (λ j m. is_ready m r ≡ (eqb ((j * span + r) / 64) (c.args.page / 64) || is_ready (get_or nodes j []) r)) there (ready r ∙ ap (λ m. eqb (r / 64) (c.split-place.result.1 / 64) || is_ready m r) is ∙ ready_here span place c.split-place.result.1 c.args.page r _ g.met.N.Node.whole c.split-place.ensures.whole) (λ j n. ap (λ m. is_ready m r) (c.grow.ensures.same j) ∙ ready_there span place j c.split-place.result.1 c.args.page r _ g.met.N.Node.whole c.split-place.ensures.whole c.split-place.ensures.low l n) j) p)) c.make_ready.ensures.ready

pub returns-clause-err : goal.returns-clause-err
returns-clause-err g c =
    let pages = g.N.Node.pages in
    let span = g.N.Node.span in
    let nodes = map pages c.self.inside.nodes.items in
    let items = c.grow.new.nodes.items in
    let grown = map pages items in
    let place = c.split-place.result.0 in
    let made = c.make_ready.new.self in
    let inside : place < length items = omega (arith, c.in_ok-grow.ensures.enough) in
    let there : place < length grown = omega (arith, inside, length-map items pages) in
    let is : pages c.index_mut.result.now ≡ get_or nodes place [] = node_is pages items place c.index_mut.result.now inside (c.index_mut.ensures.value ∙ get_or_default items place _ _ inside) ∙ c.grow.ensures.same place in
    let all = All-set (IsNode span) grown place (pages made) c.make_ready.ensures.node (c.grow.ensures.nodes c.self.invariant.0) in
    on_err_weaker c.make_ready.result (λ same p. rw (map-set pages items place made, ← c.self.view_is) (ready_by_node span nodes (set grown place (pages made)) (λ q old new. new ≡ old) g.met.N.Node.some c.self.invariant.0 all (λ j r l. set_by_place grown place (pages made) (λ j m. is_ready m r ≡ is_ready (get_or nodes j []) r) there (same r ∙ ap (λ m. is_ready m r) is) (λ j n. ap (λ m. is_ready m r) (c.grow.ensures.same j)) j) p)) c.make_ready.ensures.err

pub returns-clause-node : goal.returns-clause-node
returns-clause-node g c =
    let pages = g.N.Node.pages in
    let items = c.grow.new.nodes.items in
    let place = c.split-place.result.0 in
    let made = c.make_ready.new.self in
    let bound = few_places g.N.Node.span place c.split-place.result.1 c.args.page 64 c.split-place.ensures.whole c.requires in
    rw (map-set pages items place made) (IsNode-row g.N.Node.span (set (map pages items) place (pages made)) g.met.N.Node.some g.met.N.Node.whole (All-set (IsNode g.N.Node.span) (map pages items) place (pages made) c.make_ready.ensures.node (c.grow.ensures.nodes c.self.invariant.0)) (omega (arith, length-set (map pages items) place (pages made), length-map items pages, c.grow.ensures.few, c.self.invariant.1, bound)))

pub invariant_of-self : goal.invariant_of-self
invariant_of-self g c =
    let place = few_places g.N.Node.span c.split-place.result.0 c.split-place.result.1 c.args.page 64 c.split-place.ensures.whole c.requires in
    (c.grow.ensures.nodes c.self.invariant.0, omega (arith, c.grow.ensures.few, c.self.invariant.1, place))

pub invariant_of-self-2 : goal.invariant_of-self-2
invariant_of-self-2 g c =
    let pages = g.N.Node.pages in
    let items = c.grow.new.nodes.items in
    let place = c.split-place.result.0 in
    let made = c.make_ready.new.self in
    let bound = few_places g.N.Node.span place c.split-place.result.1 c.args.page 64 c.split-place.ensures.whole c.requires in (
      rw (map-set pages items place made) (All-set (IsNode g.N.Node.span) (map pages items) place (pages made) c.make_ready.ensures.node (c.grow.ensures.nodes c.self.invariant.0)),
      omega (arith, length-set items place made, c.grow.ensures.few, c.self.invariant.1, bound),
    )

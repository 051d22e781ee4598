use Rattle.std.proofs.Common.{◌≡◌, ℕ, ◌+◌, ◌-◌, ◌*◌, ◌<◌, ◌≤◌, Some, cond, [], get_or, map, length, refl, ap, sym, ◌∙◌, arith}
use Rattle.std.proofs.lemmas.List.{length-map, get_or_default, length-set, map-set}
use Rattle.std.proofs.lemmas.List.Elements.{All-set}
use Rattle.std.proofs.Math.ListN.{set}
use Rattle.nv_radix.specs.Pages.{is_ready, in_run}
use Rattle.nv_radix.specs.Nodes.{IsNode}
use Rattle.nv_radix.proofs.RowSteps.{is_ready-page, ready_place, same_place, node_is, blocks_by_node, ready_by_node, set_step, set_by_place, IsNode-row}
use Rattle.nv_radix.proofs.row.RowNode.set_part.Goals as goal

pub index_mut-requires : goal.index_mut-requires
index_mut-requires g c =
    let nodes = map g.N.Node.pages c.self.inside.nodes.items in
    let there = ready_place g.N.Node.span nodes c.split-place.result.0 c.split-place.result.1 c.args.page c.split-place.ensures.whole c.split-place.ensures.low c.self.invariant.0 (rw (← c.self.view_is) at c.requires.ready) in
    omega (arith, there, length-map c.self.inside.nodes.items g.N.Node.pages, c.self.inside.nodes.ok.0)

pub set_part-requires-clause-part : goal.set_part-requires-clause-part
set_part-requires-clause-part g c = omega (arith, c.requires.part, same_place g.N.Node.span c.split-place.result.0 c.split-place.result.1 c.args.page g.met.N.Node.whole c.split-place.ensures.whole)

pub set_part-requires-clause-ready : goal.set_part-requires-clause-ready
set_part-requires-clause-ready g c =
    let pages = g.N.Node.pages in
    let items = c.self.inside.nodes.items in
    let nodes = map pages items in
    let place = c.split-place.result.0 in
    let within = c.split-place.result.1 in
    let ready = rw (← c.self.view_is) at c.requires.ready in
    let there = ready_place g.N.Node.span nodes place within c.args.page c.split-place.ensures.whole c.split-place.ensures.low c.self.invariant.0 ready in
    let inside : place < length items = omega (arith, there, length-map items pages) in
    let is : pages c.index_mut.result.now ≡ get_or nodes place [] = node_is pages items place c.index_mut.result.now inside (c.index_mut.ensures.value ∙ get_or_default items place _ _ inside) in
    ap (λ m. is_ready m within) is ∙ sym (is_ready-page g.N.Node.span nodes place within c.args.page c.split-place.ensures.whole c.split-place.ensures.low c.self.invariant.0) ∙ ready

pub returns-clause-blocks : goal.returns-clause-blocks
returns-clause-blocks g c =
    let pages = g.N.Node.pages in
    let span = g.N.Node.span in
    let items = c.self.inside.nodes.items in
    let nodes = map pages items in
    let place = c.split-place.result.0 in
    let within = c.split-place.result.1 in
    let there = ready_place span nodes place within c.args.page c.split-place.ensures.whole c.split-place.ensures.low c.self.invariant.0 (rw (← c.self.view_is) at c.requires.ready) in
    let inside : place < length items = omega (arith, there, length-map items pages) in
    let is : pages c.index_mut.result.now ≡ get_or nodes place [] = node_is pages items place c.index_mut.result.now inside (c.index_mut.ensures.value ∙ get_or_default items place _ _ inside) in
    let page : place * span + within ≡ c.args.page = sym c.split-place.ensures.whole in
    let part : within + c.args.count ≤ span = omega (arith, c.requires.part, same_place span place within c.args.page g.met.N.Node.whole c.split-place.ensures.whole, c.split-place.ensures.low, g.met.N.Node.whole) in
    let each = set_step span nodes place within c.args.block c.args.count (pages c.set_part.new.self) there part (rw is at c.set_part.ensures.blocks) in
    λ p. rw (map-set pages items place c.set_part.new.self, ← c.self.view_is) (blocks_by_node span nodes (set nodes place (pages c.set_part.new.self)) (λ q old new. new ≡ cond (in_run c.args.page c.args.count q) (Some (c.args.block + (q - c.args.page))) old) g.met.N.Node.some c.self.invariant.0 (All-set (IsNode span) nodes place (pages c.set_part.new.self) c.set_part.ensures.node c.self.invariant.0) (rw page at each) p)

pub returns-clause-ready : goal.returns-clause-ready
returns-clause-ready g c =
    let pages = g.N.Node.pages in
    let span = g.N.Node.span in
    let items = c.self.inside.nodes.items in
    let nodes = map pages items in
    let place = c.split-place.result.0 in
    let there = ready_place span nodes place c.split-place.result.1 c.args.page c.split-place.ensures.whole c.split-place.ensures.low c.self.invariant.0 (rw (← c.self.view_is) at c.requires.ready) in
    let inside : place < length items = omega (arith, there, length-map items pages) in
    let is : pages c.index_mut.result.now ≡ get_or nodes place [] = node_is pages items place c.index_mut.result.now inside (c.index_mut.ensures.value ∙ get_or_default items place _ _ inside) in
    let same : (r : ℕ) → is_ready (pages c.set_part.new.self) r ≡ is_ready (get_or nodes place []) r = λ r. c.set_part.ensures.ready r ∙ ap (λ m. is_ready m r) is in
    λ p. rw (map-set pages items place c.set_part.new.self, ← c.self.view_is) (ready_by_node span nodes (set nodes place (pages c.set_part.new.self)) (λ q old new. new ≡ old) g.met.N.Node.some c.self.invariant.0 (All-set (IsNode span) nodes place (pages c.set_part.new.self) c.set_part.ensures.node c.self.invariant.0) (λ j r l. set_by_place nodes place (pages c.set_part.new.self) (λ j m. is_ready m r ≡ is_ready (get_or nodes j []) r) there (same r) (λ j n. refl) j) p)

pub returns-clause-node : goal.returns-clause-node
returns-clause-node g c =
    let pages = g.N.Node.pages in
    let items = c.self.inside.nodes.items in
    let place = c.split-place.result.0 in
    let made = c.set_part.new.self in
    rw (map-set pages items place made) (IsNode-row g.N.Node.span (set (map pages items) place (pages made)) g.met.N.Node.some g.met.N.Node.whole (All-set (IsNode g.N.Node.span) (map pages items) place (pages made) c.set_part.ensures.node c.self.invariant.0) (omega (arith, length-set (map pages items) place (pages made), length-map items pages, c.self.invariant.1)))

pub invariant_of-self : goal.invariant_of-self
invariant_of-self g c =
    let pages = g.N.Node.pages in
    let items = c.self.inside.nodes.items in
    let made = c.set_part.new.self in (
      rw (map-set pages items c.split-place.result.0 made) (All-set (IsNode g.N.Node.span) (map pages items) c.split-place.result.0 (pages made) c.set_part.ensures.node c.self.invariant.0),
      omega (arith, length-set items c.split-place.result.0 made, c.self.invariant.1),
    )

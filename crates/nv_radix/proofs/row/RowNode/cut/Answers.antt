use Rattle.std.proofs.Common.{◌≡◌, ◌+◌, ◌*◌, ◌<◌, ◌≤◌, ◌⊎◌, None, cond, leb, true, [], get_or, map, take, length, ap, sym, ◌∙◌, arith, inl, inr}
use Rattle.std.proofs.lemmas.List.{length-map, get_or_default, length-set, length-take, length-take-le, map-set, take-map}
use Rattle.std.proofs.lemmas.List.Elements.{All-set, All-take}
use Rattle.std.proofs.Math.ListN.{set}
use Rattle.nv_radix.specs.Pages.{is_ready}
use Rattle.nv_radix.specs.Nodes.{IsNode}
use Rattle.nv_radix.proofs.RowSteps.{blocks_by_node, ready_by_node, cut_step, cut_ready_step, cut_no_more_step, part_step, part_ready_step, part_no_more_step, kept_node, IsNode-row}
use Rattle.nv_radix.proofs.row.RowNode.cut.Goals as goal
use Rattle.nv_radix.proofs.row.RowNode.cut.Goals.{then-within-eq0-via-then-within-eq0, then-within-eq0-via-else-within-eq0+then-place-len}

-- nothing of the node at the cut is kept
at_end : (g : _) (c : goal.After-truncate g) → (c.split-place.result.1 ≡ 0) ⊎ (length (map g.N.Node.pages c.self.inside.nodes.items) ≤ c.split-place.result.0)
at_end g c = elim c.then-within-eq0.branch [
  | then-within-eq0-via-then-within-eq0 w ↦ inl w.if-within-eq0.true
  | then-within-eq0-via-else-within-eq0+then-place-len w ↦ inr (omega (arith, w.if-place-len.true, w.len.ensures, c.self.inside.nodes.ok.0, length-map c.self.inside.nodes.items g.N.Node.pages))
]

pub returns-then-within-eq0-clause-blocks : goal.returns-then-within-eq0-clause-blocks
returns-then-within-eq0-clause-blocks g c =
    let span = g.N.Node.span in
    let nodes = map g.N.Node.pages c.self.inside.nodes.items in
    let place = c.split-place.result.0 in
    let page : place * span + c.split-place.result.1 ≡ c.args.first_page = sym c.split-place.ensures.whole in
    let each = cut_step span nodes place c.split-place.result.1 (at_end g c) c.split-place.ensures.low in
    λ p. rw (c.truncate.ensures.items, ← take-map g.N.Node.pages place c.self.inside.nodes.items, ← c.self.view_is) (blocks_by_node span nodes (take place nodes) (λ q old new. new ≡ cond (leb c.args.first_page q) None old) g.met.N.Node.some c.self.invariant.0 (All-take (IsNode span) place nodes c.self.invariant.0) (rw page at each) p)

pub returns-then-within-eq0-clause-ready : goal.returns-then-within-eq0-clause-ready
returns-then-within-eq0-clause-ready g c =
    let span = g.N.Node.span in
    let nodes = map g.N.Node.pages c.self.inside.nodes.items in
    let place = c.split-place.result.0 in
    let page : place * span + c.split-place.result.1 ≡ c.args.first_page = sym c.split-place.ensures.whole in
    let each = cut_ready_step span nodes place c.split-place.result.1 (at_end g c) c.split-place.ensures.low in
    λ p. rw (c.truncate.ensures.items, ← take-map g.N.Node.pages place c.self.inside.nodes.items, ← c.self.view_is) (ready_by_node span nodes (take place nodes) (λ q old new. q < c.args.first_page → new ≡ old) g.met.N.Node.some c.self.invariant.0 (All-take (IsNode span) place nodes c.self.invariant.0) (rw page at each) p)

pub returns-then-within-eq0-clause-no_more : goal.returns-then-within-eq0-clause-no_more
returns-then-within-eq0-clause-no_more g c =
    let span = g.N.Node.span in
    let nodes = map g.N.Node.pages c.self.inside.nodes.items in
    let place = c.split-place.result.0 in
    λ p. rw (c.truncate.ensures.items, ← take-map g.N.Node.pages place c.self.inside.nodes.items, ← c.self.view_is) (ready_by_node span nodes (take place nodes) (λ q old new. new ≡ true → old ≡ true) g.met.N.Node.some c.self.invariant.0 (All-take (IsNode span) place nodes c.self.invariant.0) (λ j r l. cut_no_more_step nodes place j r) p)

pub returns-then-within-eq0-clause-node : goal.returns-then-within-eq0-clause-node
returns-then-within-eq0-clause-node g c =
    let nodes = map g.N.Node.pages c.self.inside.nodes.items in
    let place = c.split-place.result.0 in
    rw (c.truncate.ensures.items, ← take-map g.N.Node.pages place c.self.inside.nodes.items) (IsNode-row g.N.Node.span (take place nodes) g.met.N.Node.some g.met.N.Node.whole (All-take (IsNode g.N.Node.span) place nodes c.self.invariant.0) (omega (arith, length-take place nodes, length-map c.self.inside.nodes.items g.N.Node.pages, c.self.invariant.1)))

pub returns-clause-blocks : goal.returns-clause-blocks
returns-clause-blocks g c =
    let pages = g.N.Node.pages in
    let span = g.N.Node.span in
    let items = c.self.inside.nodes.items in
    let nodes = map pages items in
    let place = c.split-place.result.0 in
    let inside : place < length items = omega (arith, c.if-place-len.false, c.len.ensures, c.self.inside.nodes.ok.0) in
    let there : place < length nodes = omega (arith, inside, length-map items pages) in
    let kept = All-take (IsNode span) (place + 1) nodes c.self.invariant.0 in
    let is : pages c.index_mut.result.now ≡ get_or nodes place [] = kept_node pages items place c.index_mut.result.now inside (rw c.truncate-2.ensures.items at c.index_mut.ensures.value ∙ get_or_default (take (place + 1) items) place _ _ (omega (arith, length-take-le (place + 1) items (omega (arith, inside))))) in
    let page : place * span + c.split-place.result.1 ≡ c.args.first_page = sym c.split-place.ensures.whole in
    let each = part_step span nodes place c.split-place.result.1 (pages c.cut.new.self) there c.split-place.ensures.low (rw is at c.cut.ensures.blocks) in
    λ p. rw (c.truncate-2.ensures.items, map-set pages (take (place + 1) items) place c.cut.new.self, ← take-map pages (place + 1) items, ← c.self.view_is) (blocks_by_node span nodes (set (take (place + 1) nodes) place (pages c.cut.new.self)) (λ q old new. new ≡ cond (leb c.args.first_page q) None old) g.met.N.Node.some c.self.invariant.0 (All-set (IsNode span) (take (place + 1) nodes) place (pages c.cut.new.self) c.cut.ensures.node kept) (rw page at each) p)

pub returns-clause-ready : goal.returns-clause-ready
returns-clause-ready g c =
    let pages = g.N.Node.pages in
    let span = g.N.Node.span in
    let items = c.self.inside.nodes.items in
    let nodes = map pages items in
    let place = c.split-place.result.0 in
    let inside : place < length items = omega (arith, c.if-place-len.false, c.len.ensures, c.self.inside.nodes.ok.0) in
    let there : place < length nodes = omega (arith, inside, length-map items pages) in
    let kept = All-take (IsNode span) (place + 1) nodes c.self.invariant.0 in
    let is : pages c.index_mut.result.now ≡ get_or nodes place [] = kept_node pages items place c.index_mut.result.now inside (rw c.truncate-2.ensures.items at c.index_mut.ensures.value ∙ get_or_default (take (place + 1) items) place _ _ (omega (arith, length-take-le (place + 1) items (omega (arith, inside))))) in
    let page : place * span + c.split-place.result.1 ≡ c.args.first_page = sym c.split-place.ensures.whole in
    let each = part_ready_step span nodes place c.split-place.result.1 (pages c.cut.new.self) there c.split-place.ensures.low (λ r l. c.cut.ensures.ready r l ∙ ap (λ m. is_ready m r) is) in
    λ p. rw (c.truncate-2.ensures.items, map-set pages (take (place + 1) items) place c.cut.new.self, ← take-map pages (place + 1) items, ← c.self.view_is) (ready_by_node span nodes (set (take (place + 1) nodes) place (pages c.cut.new.self)) (λ q old new. q < c.args.first_page → new ≡ old) g.met.N.Node.some c.self.invariant.0 (All-set (IsNode span) (take (place + 1) nodes) place (pages c.cut.new.self) c.cut.ensures.node kept) (rw page at each) p)

pub returns-clause-no_more : goal.returns-clause-no_more
returns-clause-no_more g c =
    let pages = g.N.Node.pages in
    let span = g.N.Node.span in
    let items = c.self.inside.nodes.items in
    let nodes = map pages items in
    let place = c.split-place.result.0 in
    let inside : place < length items = omega (arith, c.if-place-len.false, c.len.ensures, c.self.inside.nodes.ok.0) in
    let there : place < length nodes = omega (arith, inside, length-map items pages) in
    let kept = All-take (IsNode span) (place + 1) nodes c.self.invariant.0 in
    let is : pages c.index_mut.result.now ≡ get_or nodes place [] = kept_node pages items place c.index_mut.result.now inside (rw c.truncate-2.ensures.items at c.index_mut.ensures.value ∙ get_or_default (take (place + 1) items) place _ _ (omega (arith, length-take-le (place + 1) items (omega (arith, inside))))) in
    λ p. rw (c.truncate-2.ensures.items, map-set pages (take (place + 1) items) place c.cut.new.self, ← take-map pages (place + 1) items, ← c.self.view_is) (ready_by_node span nodes (set (take (place + 1) nodes) place (pages c.cut.new.self)) (λ q old new. new ≡ true → old ≡ true) g.met.N.Node.some c.self.invariant.0 (All-set (IsNode span) (take (place + 1) nodes) place (pages c.cut.new.self) c.cut.ensures.node kept) (λ j r l. part_no_more_step nodes place (pages c.cut.new.self) there (λ q e. sym (ap (λ m. is_ready m q) is) ∙ c.cut.ensures.no_more q e) j r) p)

pub returns-clause-node : goal.returns-clause-node
returns-clause-node g c =
    let pages = g.N.Node.pages in
    let span = g.N.Node.span in
    let items = c.self.inside.nodes.items in
    let nodes = map pages items in
    let place = c.split-place.result.0 in
    let kept = All-take (IsNode span) (place + 1) nodes c.self.invariant.0 in
    rw (c.truncate-2.ensures.items, map-set pages (take (place + 1) items) place c.cut.new.self, ← take-map pages (place + 1) items) (IsNode-row span (set (take (place + 1) nodes) place (pages c.cut.new.self)) g.met.N.Node.some g.met.N.Node.whole (All-set (IsNode span) (take (place + 1) nodes) place (pages c.cut.new.self) c.cut.ensures.node kept) (omega (arith, length-set (take (place + 1) nodes) place (pages c.cut.new.self), length-take (place + 1) nodes, length-map items pages, c.self.invariant.1)))

pub invariant_of-self : goal.invariant_of-self
invariant_of-self g c =
    let pages = g.N.Node.pages in
    let items = c.self.inside.nodes.items in
    let place = c.split-place.result.0 in (
      rw (c.truncate.ensures.items, ← take-map pages place items) (All-take (IsNode g.N.Node.span) place (map pages items) c.self.invariant.0),
      rw c.truncate.ensures.items (omega (arith, length-take place items, c.self.invariant.1)),
    )

pub invariant_of-self-2 : goal.invariant_of-self-2
invariant_of-self-2 g c =
    let pages = g.N.Node.pages in
    let span = g.N.Node.span in
    let items = c.self.inside.nodes.items in
    let nodes = map pages items in
    let place = c.split-place.result.0 in
    let kept = All-take (IsNode span) (place + 1) nodes c.self.invariant.0 in (
      rw (c.truncate-2.ensures.items, map-set pages (take (place + 1) items) place c.cut.new.self, ← take-map pages (place + 1) items) (All-set (IsNode span) (take (place + 1) nodes) place (pages c.cut.new.self) c.cut.ensures.node kept),
      rw c.truncate-2.ensures.items (omega (arith, length-set (take (place + 1) items) place c.cut.new.self, length-take (place + 1) items, c.self.invariant.1)),
    )

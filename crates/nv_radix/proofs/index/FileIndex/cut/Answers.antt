use Rattle.std.proofs.Common.{◌≡◌, ◌+◌, ◌<◌, None, cond, leb, true, refl, ap, ◌∙◌, arith}
use Rattle.nv_radix.specs.Pages.{block_at}
use Rattle.nv_radix.proofs.Halves.{blocks_by_half, ready_by_half, not_more, leb_behind, cut_low, cut_high, cut_all}
use Rattle.nv_radix.proofs.index.FileIndex.cut.Goals as goal

pub returns-then-first_page-ge64-clause-blocks : goal.returns-then-first_page-ge64-clause-blocks
returns-then-first_page-ge64-clause-blocks c = λ p. rw (← c.self.view_is) (blocks_by_half c.self.inside.front c.self.inside.rest c.self.inside.front c.cut.new.self (λ q old new. new ≡ cond (leb c.args.first_page q) None old) c.self.invariant.0 c.self.invariant.1 c.self.invariant.0 c.cut.ensures.node (λ q l. cut_low c.args.first_page q _ (omega (arith, l, c.if-first_page-ge64.true))) (λ q. c.cut.ensures.blocks q ∙ ap (λ b. cond b None (block_at c.self.inside.rest q)) (leb_behind c.args.first_page q c.if-first_page-ge64.true)) p)

pub returns-then-first_page-ge64-clause-ready : goal.returns-then-first_page-ge64-clause-ready
returns-then-first_page-ge64-clause-ready c = λ p. rw (← c.self.view_is) (ready_by_half c.self.inside.front c.self.inside.rest c.self.inside.front c.cut.new.self (λ q old new. q < c.args.first_page → new ≡ old) c.self.invariant.0 c.self.invariant.1 c.self.invariant.0 c.cut.ensures.node (λ q l k. refl) (λ q k. c.cut.ensures.ready q (omega (arith, k))) p)

pub returns-then-first_page-ge64-clause-no_more : goal.returns-then-first_page-ge64-clause-no_more
returns-then-first_page-ge64-clause-no_more c = λ p. rw (← c.self.view_is) (ready_by_half c.self.inside.front c.self.inside.rest c.self.inside.front c.cut.new.self (λ q old new. new ≡ true → old ≡ true) c.self.invariant.0 c.self.invariant.1 c.self.invariant.0 c.cut.ensures.node (λ q l e. e) (λ q. c.cut.ensures.no_more q) p)

pub invariant_of-self : goal.invariant_of-self
invariant_of-self c = (c.self.invariant.0, c.cut.ensures.node, λ p l. not_more _ _ (ready_by_half c.self.inside.front c.self.inside.rest c.self.inside.front c.cut.new.self (λ q old new. new ≡ true → old ≡ true) c.self.invariant.0 c.self.invariant.1 c.self.invariant.0 c.cut.ensures.node (λ q k e. e) (λ q. c.cut.ensures.no_more q) p) (c.self.invariant.2 p l))

pub returns-clause-blocks : goal.returns-clause-blocks
returns-clause-blocks c =
    let front = c.cut-3.ensures in
    λ p. rw (← c.self.view_is) (blocks_by_half c.self.inside.front c.self.inside.rest c.cut-3.new.self c.cut-2.new.self (λ q old new. new ≡ cond (leb c.args.first_page q) None old) c.self.invariant.0 c.self.invariant.1 front.rises c.cut-2.ensures.node (λ q l. front.blocks q) (λ q. c.cut-2.ensures.blocks q ∙ cut_all q _ ∙ cut_high c.args.first_page (64 + q) _ (omega (arith, c.if-first_page-ge64.false))) p)

pub returns-clause-ready : goal.returns-clause-ready
returns-clause-ready c =
    let front = c.cut-3.ensures in
    λ p. rw (← c.self.view_is) (ready_by_half c.self.inside.front c.self.inside.rest c.cut-3.new.self c.cut-2.new.self (λ q old new. q < c.args.first_page → new ≡ old) c.self.invariant.0 c.self.invariant.1 front.rises c.cut-2.ensures.node (λ q l k. front.ready q k) (λ q k. absurd (omega (arith, k, c.if-first_page-ge64.false))) p)

pub returns-clause-no_more : goal.returns-clause-no_more
returns-clause-no_more c =
    let front = c.cut-3.ensures in
    λ p. rw (← c.self.view_is) (ready_by_half c.self.inside.front c.self.inside.rest c.cut-3.new.self c.cut-2.new.self (λ q old new. new ≡ true → old ≡ true) c.self.invariant.0 c.self.invariant.1 front.rises c.cut-2.ensures.node (λ q l e. front.no_more q e) (λ q. c.cut-2.ensures.no_more q) p)

pub invariant_of-self-2 : goal.invariant_of-self-2
invariant_of-self-2 c =
    let front = c.cut-3.ensures in
    (front.rises, c.cut-2.ensures.node, λ p l. not_more _ _ (ready_by_half c.self.inside.front c.self.inside.rest c.cut-3.new.self c.cut-2.new.self (λ q old new. new ≡ true → old ≡ true) c.self.invariant.0 c.self.invariant.1 front.rises c.cut-2.ensures.node (λ q k e. front.no_more q e) (λ q. c.cut-2.ensures.no_more q) p) (c.self.invariant.2 p l))

use Rattle.std.proofs.Common.{◌≡◌, ℕ, ◌||◌, Bool, ltb, ◌++◌, length, ap, sym, ◌∙◌, arith}
use Rattle.nv_radix.proofs.Leaves.{is_ready-leaf}
use Rattle.nv_radix.proofs.FirstPages.{Rises-first, first_longer, longer_ready, ready_already}
use Rattle.nv_radix.proofs.front.Front.make_ready.Goals as goal

pub returns-in_err-lengthen-clause-rises : goal.returns-in_err-lengthen-clause-rises
returns-in_err-lengthen-clause-rises c = Rises-first c.self.inside.mapped c.lengthen.new.blocks.items (let same : length c.lengthen.new.blocks.items ≡ length c.self.inside.blocks.items = ap length c.in_err-lengthen.ensures.refused in omega (arith, same, c.self.invariant.0))

pub returns-in_ok-lengthen-clause-blocks : goal.returns-in_ok-lengthen-clause-blocks
returns-in_ok-lengthen-clause-blocks c =
    let blocks = c.self.inside.blocks.items in
    let more = c.in_ok-lengthen.ensures.more in
    let whole : c.lengthen.new.blocks.items ≡ blocks ++ more.0 = more.1 in
    λ p. rw (← c.self.view_is) (first_longer c.self.inside.mapped blocks more.0 c.lengthen.new.blocks.items p c.self.invariant.1 whole (omega (arith, c.in_ok-lengthen.ensures.len, c.requires)))

pub returns-in_ok-lengthen-clause-ready : goal.returns-in_ok-lengthen-clause-ready
returns-in_ok-lengthen-clause-ready c =
    let blocks = c.self.inside.blocks.items in
    λ p. rw (← c.self.view_is) (is_ready-leaf c.self.inside.mapped c.lengthen.new.blocks.items p ∙ ap (λ (n : ℕ). ltb p n) c.in_ok-lengthen.ensures.len ∙ longer_ready (length blocks) c.args.count p (omega (arith, c.len.ensures.value, c.if-len-count.true)) ∙ ap (λ (b : Bool). ltb p c.args.count || b) (sym (is_ready-leaf c.self.inside.mapped blocks p)))

pub returns-in_ok-lengthen-clause-rises : goal.returns-in_ok-lengthen-clause-rises
returns-in_ok-lengthen-clause-rises c = Rises-first c.self.inside.mapped c.lengthen.new.blocks.items (omega (arith, c.in_ok-lengthen.ensures.len, c.requires))

pub returns-else-len-count-clause-ready : goal.returns-else-len-count-clause-ready
returns-else-len-count-clause-ready c =
    let blocks = c.self.inside.blocks.items in
    λ p. rw (← c.self.view_is) (is_ready-leaf c.self.inside.mapped blocks p ∙ ready_already (length blocks) c.args.count p (omega (arith, c.len.ensures.value, c.if-len-count.false)) ∙ ap (λ (b : Bool). ltb p c.args.count || b) (sym (is_ready-leaf c.self.inside.mapped blocks p)))

pub returns-else-len-count-clause-rises : goal.returns-else-len-count-clause-rises
returns-else-len-count-clause-rises c = rw (← c.self.view_is) (Rises-first c.self.inside.mapped c.self.inside.blocks.items c.self.invariant.0)

use Rattle.std.proofs.Common.{◌≡◌, ◌/◌, ◌||◌, eqb, refl, ◌∙◌}
use Rattle.std.proofs.lemmas.Result.{on_ok_weaker, on_err_weaker}
use Rattle.nv_radix.specs.Pages.{is_ready}
use Rattle.nv_radix.proofs.Halves.{blocks_by_half, ready_by_half, other_front, ready_rest, not_beyond}
use Rattle.nv_radix.proofs.RunLemmas.{either_way}
use Rattle.nv_radix.proofs.index.FileIndex.make_leaf_ready.Goals as goal

pub returns-clause-blocks : goal.returns-clause-blocks
returns-clause-blocks c = λ p. rw (← c.self.view_is) (blocks_by_half c.self.inside.front c.self.inside.rest c.self.inside.front c.make_ready.new.self (λ q old new. new ≡ old) c.self.invariant.0 c.self.invariant.1 c.self.invariant.0 c.make_ready.ensures.node (λ q l. refl) (λ q. c.make_ready.ensures.blocks q) p)

pub returns-clause-ready : goal.returns-clause-ready
returns-clause-ready c = on_ok_weaker c.make_ready.result (λ ready p. rw (← c.self.view_is) (ready_by_half c.self.inside.front c.self.inside.rest c.self.inside.front c.make_ready.new.self (λ q old new. new ≡ (eqb (q / 64) (c.args.page / 64) || old)) c.self.invariant.0 c.self.invariant.1 c.self.invariant.0 c.make_ready.ensures.node (λ q l. other_front c.args.page q (is_ready c.self.inside.front q) c.requires.behind l) (λ q. ready q ∙ ready_rest c.args.page q (is_ready c.self.inside.rest q) c.requires.behind) p)) c.make_ready.ensures.ready

pub returns-clause-err : goal.returns-clause-err
returns-clause-err c = on_err_weaker c.make_ready.result (λ same p. rw (← c.self.view_is) (ready_by_half c.self.inside.front c.self.inside.rest c.self.inside.front c.make_ready.new.self (λ q old new. new ≡ old) c.self.invariant.0 c.self.invariant.1 c.self.invariant.0 c.make_ready.ensures.node (λ q l. refl) same p)) c.make_ready.ensures.err

pub invariant_of-self : goal.invariant_of-self
invariant_of-self c =
    let node = c.make_ready.ensures.node in (
      c.self.invariant.0,
      node,
      λ p l. either_way c.make_ready.result _ _ _ c.make_ready.ensures.ready c.make_ready.ensures.err
          (λ ready. not_beyond c.args.page p _ _ c.requires.page l (c.self.invariant.2 p l) (ready_by_half c.self.inside.front c.self.inside.rest c.self.inside.front c.make_ready.new.self (λ q old new. new ≡ (eqb (q / 64) (c.args.page / 64) || old)) c.self.invariant.0 c.self.invariant.1 c.self.invariant.0 node (λ q k. other_front c.args.page q (is_ready c.self.inside.front q) c.requires.behind k) (λ q. ready q ∙ ready_rest c.args.page q (is_ready c.self.inside.rest q) c.requires.behind) p))
          (λ same. ready_by_half c.self.inside.front c.self.inside.rest c.self.inside.front c.make_ready.new.self (λ q old new. new ≡ old) c.self.invariant.0 c.self.invariant.1 c.self.invariant.0 node (λ q k. refl) same p ∙ c.self.invariant.2 p l),
    )

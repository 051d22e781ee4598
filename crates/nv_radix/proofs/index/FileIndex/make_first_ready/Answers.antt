use Rattle.std.proofs.Common.{◌≡◌, ◌||◌, nat_lt, refl, ◌∙◌}
use Rattle.std.proofs.lemmas.Result.{on_ok_weaker, on_err_weaker}
use Rattle.nv_radix.specs.Pages.{is_ready}
use Rattle.nv_radix.proofs.Halves.{blocks_by_half, ready_by_half, behind_first, not_first}
use Rattle.nv_radix.proofs.RunLemmas.{either_way}
use Rattle.nv_radix.proofs.index.FileIndex.make_first_ready.Goals as goal

pub returns-clause-blocks : goal.returns-clause-blocks
returns-clause-blocks c = λ p. rw (← c.self.view_is) (blocks_by_half c.self.inside.front c.self.inside.rest c.make_ready.new.self c.self.inside.rest (λ q old new. new ≡ old) c.self.invariant.0 c.self.invariant.1 c.make_ready.ensures.rises c.self.invariant.1 (λ q l. c.make_ready.ensures.blocks q) (λ q. refl) p)

pub returns-clause-ready : goal.returns-clause-ready
returns-clause-ready c = on_ok_weaker c.make_ready.result (λ ready p. rw (← c.self.view_is) (ready_by_half c.self.inside.front c.self.inside.rest c.make_ready.new.self c.self.inside.rest (λ q old new. new ≡ (nat_lt q c.args.count || old)) c.self.invariant.0 c.self.invariant.1 c.make_ready.ensures.rises c.self.invariant.1 (λ q l. ready q) (λ q. behind_first c.args.count q (is_ready c.self.inside.rest q) c.requires) p)) c.make_ready.ensures.ready

pub returns-clause-err : goal.returns-clause-err
returns-clause-err c = on_err_weaker c.make_ready.result (λ same p. rw (← c.self.view_is) (ready_by_half c.self.inside.front c.self.inside.rest c.make_ready.new.self c.self.inside.rest (λ q old new. new ≡ old) c.self.invariant.0 c.self.invariant.1 c.make_ready.ensures.rises c.self.invariant.1 (λ q l. same q) (λ q. refl) p)) c.make_ready.ensures.err

pub invariant_of-self : goal.invariant_of-self
invariant_of-self c =
    let rises = c.make_ready.ensures.rises in (
      rises,
      c.self.invariant.1,
      λ p l. either_way c.make_ready.result _ _ _ c.make_ready.ensures.ready c.make_ready.ensures.err
          (λ ready. not_first c.args.count p _ _ c.requires l (c.self.invariant.2 p l) (ready_by_half c.self.inside.front c.self.inside.rest c.make_ready.new.self c.self.inside.rest (λ q old new. new ≡ (nat_lt q c.args.count || old)) c.self.invariant.0 c.self.invariant.1 rises c.self.invariant.1 (λ q k. ready q) (λ q. behind_first c.args.count q (is_ready c.self.inside.rest q) c.requires) p))
          (λ same. ready_by_half c.self.inside.front c.self.inside.rest c.make_ready.new.self c.self.inside.rest (λ q old new. new ≡ old) c.self.invariant.0 c.self.invariant.1 rises c.self.invariant.1 (λ q k. same q) (λ q. refl) p ∙ c.self.invariant.2 p l),
    )

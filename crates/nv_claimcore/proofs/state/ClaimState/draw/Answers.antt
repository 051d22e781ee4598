use Rattle.std.proofs.Common.{◌+◌, ◌<◌, length, set, sym, ap, ◌∙◌, subst}
use Rattle.std.proofs.lemmas.List.{get_or_default}
use Rattle.nv_claimcore.specs.declared.view.View.{View}
use Rattle.nv_claimcore.specs.Claims.{State, nothing, with_number, after_draw}
use Rattle.nv_claimcore.specs.Events.{view_of}
use Rattle.nv_claimcore.proofs.state.ClaimState.draw.Goals as goal

pub returns-clause-ok : goal.returns-clause-ok
returns-clause-ok c =
    let s = c.self.inside in let w = c.args.worker in
    let worker : w < length s.views.items = subst (λ (t : State). c.args.worker < length t.views) (sym c.self.view_is) c.requires.0 in
    let drawn = c.in_ok-draw.ensures.ok ∙ ap (λ (v : View). with_number v c.self.inside.cursor) (c.index_mut.ensures.value ∙ get_or_default s.views.items w c.index_mut.result.now (nothing 0) worker) in
    (λ i. record {
      first = c.self.inside.first.items;
      second = c.self.inside.second.items;
      cursor = c.self.inside.cursor + 1;
      views = set c.self.inside.views.items c.args.worker (drawn i);
    })
    ∙ ap (λ (t : State). after_draw t c.args.worker (view_of t c.args.worker)) c.self.view_is

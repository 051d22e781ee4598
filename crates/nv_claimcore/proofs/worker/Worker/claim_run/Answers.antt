use Rattle.std.proofs.Common.{List, ◌++◌, sym, ap, ◌∙◌}
use Rattle.nv_super.specs.Owners.{pairs}
use Rattle.nv_claimcore.specs.declared.view.Record.{Record}
use Rattle.nv_claimcore.specs.Spans.{claim_all, claims_in}
use Rattle.nv_claimcore.proofs.SpanSteps.{claim_all_adds}
use Rattle.nv_claimcore.proofs.worker.Worker.claim_run.Goals as goal

pub returns-clause-ok : goal.returns-clause-ok
returns-clause-ok c = let ps = pairs c.args.run.start c.args.owner c.args.run.count in
    ap (λ (rs : List Record). record { seats = 1; numbers = c.self.inside.numbers.items; records = rs }) (c.push_claims.ensures ∙ ap (λ (rs : List Record). rs ++ claims_in c.args.found ps) c.reserve.ensures.items)
    ∙ (sym (claim_all_adds c.args.found ps (record { seats = 1; numbers = c.self.inside.numbers.items; records = c.self.inside.records.items })) ∙ ap (claim_all c.args.found ps) c.self.view_is)

use Rattle.std.proofs.Common.{◌++◌, ◌∙◌, ℕ, List, ap, sym}
use Rattle.std.proofs.lemmas.List.{take_all}
use Rattle.nv_super.specs.declared.owners.Owner.{Owner}
use Rattle.nv_scan.specs.Work.{claims_among}
use Rattle.nv_scan.proofs.Runs.{among_more}
use Rattle.nv_recover.proofs.replaying.runs_of.Goals as goal

pub loop-claims-init : goal.loop-claims-init
loop-claims-init c = c.new-runs.ensures

pub loop-claims-preserved : goal.loop-claims-preserved
loop-claims-preserved c =
    let k = c.loop-claims.claims-index in
    c.in_ok-add_to.ensures ∙ ap (λ (ps : List (ℕ × Owner)). ps ++ c.claims-item.result.items) c.loop-claims.invariant
    ∙ sym (among_more c.args.each.now k c.claims-item.result c.loop-claims-test.true c.claims-item.is)

pub returns : goal.returns
returns c = c.loop-claims.invariant ∙ ap claims_among (take_all c.loop-claims.claims-index c.args.each.now c.loop-claims-test.false)

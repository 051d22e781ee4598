use Rattle.std.proofs.Common.{◌∙◌, ap, inr, List}
use Rattle.nv_super.specs.declared.faults.Fault.{Fault}
use Rattle.nv_report.specs.Last.{how_it_went, status_of}
use Rattle.nv_outcome.specs.Answer.{outcome_of}
use Rattle.nv_outcome.proofs.SuperOf.{layout_of_super}
use Rattle.nv_image_check.proofs.checking.check_memory.Goals as goal

pub output_text-made-requires-clause-areas : goal.output_text-made-requires-clause-areas
output_text-made-requires-clause-areas g c κs within = let may = rw c.in-Recovered.is at c.in_ok-answer.ensures.ok in (layout_of_super (g.P.Pmem.region c.args.memory.now) c.in-Recovered.recovered.sup may.2.sup).areas

pub returns-in_ok-text-in-Recovered : goal.returns-in_ok-text-in-Recovered
returns-in_ok-text-in-Recovered g c =
    let may = rw c.in-Recovered.is at c.in_ok-answer.ensures.ok in
    let status = c.status_of-status.ensures ∙ ap (λ (faults : List Fault). status_of (how_it_went faults)) c.deref.ensures.value in
    rw may.0 (inr (outcome_of c.in-Recovered.recovered, may.2, rw c.in_ok-text-in-Recovered.was at c.output_text-made.ensures, status))

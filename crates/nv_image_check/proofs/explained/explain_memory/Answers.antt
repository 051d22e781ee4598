use Rattle.std.proofs.Common.{◌∙◌, ap, inr, subst, List, string_bytes}
use Rattle.nv_region.specs.Region.{Region}
use Rattle.nv_super.specs.declared.faults.Fault.{Fault}
use Rattle.nv_report.specs.Last.{how_it_went, status_of}
use Rattle.nv_outcome.specs.Answer.{outcome_of}
use Rattle.nv_image_check.specs.Explained.{IsExplainedText}
use Rattle.nv_image_check.proofs.explained.explain_memory.Goals as goal

pub explained_text-made-requires : goal.explained_text-made-requires
explained_text-made-requires g c = let of = rw c.in-Recovered.is at c.in_ok-answer.ensures.lists in of.2

pub returns-in_ok-text-in-Recovered : goal.returns-in_ok-text-in-Recovered
returns-in_ok-text-in-Recovered g c =
    let may = rw c.in-Recovered.is at c.in_ok-answer.ensures.ok in
    let text = subst (λ (S : Region). IsExplainedText S (outcome_of c.in-Recovered.recovered) (string_bytes c.in_ok-text-in-Recovered.text)) may.3 (rw c.in_ok-text-in-Recovered.was at c.explained_text-made.ensures) in
    let status = c.status_of-status.ensures ∙ ap (λ (faults : List Fault). status_of (how_it_went faults)) c.deref.ensures.value in
    rw may.0 (inr (outcome_of c.in-Recovered.recovered, may.2, text, status))

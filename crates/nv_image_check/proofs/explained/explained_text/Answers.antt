use Rattle.std.proofs.Common.{◌≡◌, ◌∙◌, ◌++◌, List, ap, string_bytes}
use Rattle.nv_super.specs.Layout.{Layout}
use Rattle.nv_super.specs.declared.faults.Fault.{Fault}
use Rattle.nv_outcome.specs.Answer.{outcome_of}
use Rattle.nv_image_check.specs.Explained.{layout_in}
use Rattle.nv_image_check.specs.Sentences.{sentences}
use Rattle.nv_image_check.proofs.explained.explained_text.Goals as goal

pub returns : goal.returns
returns g c =
    let r = c.args.recovered.now in
    let R = g.P.Pmem.region c.args.memory.now in
    let report = string_bytes c.in_ok-text.text in
    let same : r.tables.layout ≡ layout_in (outcome_of r) = λ i. record { sup = c.requires i; chains = r.tables.layout.chains } in (
      report,
      c.in_ok-text.ensures,
      c.in_ok-push_sentences.ensures ∙ ap (λ (faults : List Fault). report ++ sentences R r.tables.layout faults) c.deref.ensures.value ∙ ap (λ (l : Layout). report ++ sentences R l r.faults.items) same,
    )

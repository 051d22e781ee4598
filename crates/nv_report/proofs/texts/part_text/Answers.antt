use Rattle.std.proofs.Common.{[], subst}
use Rattle.std.specs.Prelude.{string_bytes}
use Rattle.std.proofs.lemmas.Result.{IfOk-weaker}
use Rattle.nv_outcome.specs.Outcome.{Outcome}
use Rattle.nv_outcome.specs.Answer.{outcome_of}
use Rattle.nv_report.specs.Texts.{IsPartText}
use Rattle.nv_report.proofs.TextLemmas.{same_part}
use Rattle.nv_report.proofs.texts.part_text.Goals as goal

pub returns : goal.returns
returns c = IfOk-weaker c.shown_text.result _ _ (λ text is. same_part c.args.part (outcome_of c.args.recovered.now) [] c.args.recovered.now.tables.layout.chains [] c.args.recovered.now.doubled.items (string_bytes text)
    (subst (λ (o : Outcome). IsPartText c.args.part o (string_bytes text)) c.of.ensures is)) c.shown_text.ensures

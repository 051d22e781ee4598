use Rattle.std.proofs.Common.{string_bytes, subst}
use Rattle.nv_outcome.specs.Outcome.{Outcome}
use Rattle.nv_json.specs.Json.{TellsReport}
use Rattle.nv_image_check.proofs.output.json_text.Goals as goal

pub returns : goal.returns
returns c =
    let json = string_bytes c.in_ok-text.text in
    (json, subst (λ (o : Outcome). TellsReport o json) c.of.ensures c.in_ok-text.ensures, c.in_ok-push_str.ensures.bytes)

use Rattle.std.proofs.Common.{string_bytes}
use Rattle.std.proofs.lemmas.Result.{IfOk-weaker}
use Rattle.nv_region.specs.Region.{region_of}
use Rattle.nv_image_check.proofs.Found.{as_found}
use Rattle.nv_logs.proofs.RowLooks.{image_rows, refused_rows}
use Rattle.nv_logs.proofs.telling.look_at_image.Goals as goal

pub returns-in-Recovered : goal.returns-in-Recovered
returns-in-Recovered g c =
    let bytes = c.args.bytes.now in
    let found = c.in-Recovered.found in
    let is = as_found (region_of bytes) c.in_ok-image.image c.in-Recovered.memory found c.in-Recovered.is c.in_ok-image.ensures in
    image_rows (g.T.Teller.tells c.args.teller.now) bytes c.in-Recovered.memory found is c.look-look.result c.look-look.ensures.told c.look-look.ensures.faults

pub returns-in-Refused : goal.returns-in-Refused
returns-in-Refused g c = IfOk-weaker c.unaccepted_look.result _ _
    (λ look said. refused_rows (g.T.Teller.tells c.args.teller.now) (region_of c.args.bytes.now) c.in-Refused.refusal (string_bytes look.text) look.answered (rw c.in-Refused.is at c.in_ok-image.ensures) said)
    c.unaccepted_look.ensures

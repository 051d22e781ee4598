use Rattle.std.proofs.Common.{string_bytes}
use Rattle.std.proofs.lemmas.Result.{IfOk-weaker}
use Rattle.nv_region.specs.Region.{region_of}
use Rattle.nv_image_check.proofs.Found.{as_found}
use Rattle.nv_comparing.proofs.Images.{first_refused, held_in}
use Rattle.nv_comparing.proofs.comparing.look_at_images.Goals as goal

pub look_beside-look-requires : goal.look_beside-look-requires
look_beside-look-requires c =
    let found = c.in-Recovered.found in
    let is = as_found (region_of c.args.a.now) c.in_ok-image.image c.in-Recovered.memory found c.in-Recovered.is c.in_ok-image.ensures in
    held_in c.args.a.now c.in-Recovered.memory found is

pub returns-in-Recovered : goal.returns-in-Recovered
returns-in-Recovered c =
    let found = c.in-Recovered.found in
    let is = as_found (region_of c.args.a.now) c.in_ok-image.image c.in-Recovered.memory found c.in-Recovered.is c.in_ok-image.ensures in
    c.look_beside-look.ensures (region_of c.args.a.now) is.0 is.1

pub returns-in-Refused : goal.returns-in-Refused
returns-in-Refused c = IfOk-weaker c.refused_look.result _ _
    (λ look said. first_refused (region_of c.args.a.now) (region_of c.args.b.now) c.in-Refused.refusal (string_bytes look.text) look.compared (rw c.in-Refused.is at c.in_ok-image.ensures) said)
    c.refused_look.ensures

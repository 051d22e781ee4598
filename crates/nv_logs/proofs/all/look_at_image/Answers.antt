use Rattle.std.proofs.Common.{string_bytes}
use Rattle.std.proofs.lemmas.Result.{IfOk-weaker}
use Rattle.nv_region.specs.Region.{region_of}
use Rattle.nv_image_check.proofs.Found.{as_found}
use Rattle.nv_logs.proofs.Looks.{image_layout, image_blocks}
use Rattle.nv_logs.proofs.AllLooks.{image_answer, refused_look}
use Rattle.nv_logs.proofs.all.look_at_image.Goals as goal

pub look_in-look-requires : goal.look_in-look-requires
look_in-look-requires c =
    let is = as_found (region_of c.args.bytes.now) c.in_ok-image.image c.in-Recovered.memory c.in-Recovered.found c.in-Recovered.is c.in_ok-image.ensures in
    record { layout = image_layout c.args.bytes.now c.in-Recovered.memory c.in-Recovered.found is; blocks = image_blocks c.args.bytes.now c.in-Recovered.memory c.in-Recovered.found is }

pub returns-in-Recovered : goal.returns-in-Recovered
returns-in-Recovered c =
    let is = as_found (region_of c.args.bytes.now) c.in_ok-image.image c.in-Recovered.memory c.in-Recovered.found c.in-Recovered.is c.in_ok-image.ensures in
    image_answer c.args.bytes.now c.in-Recovered.memory c.in-Recovered.found is c.look_in-look.result c.look_in-look.ensures.text c.look_in-look.ensures.status c.look_in-look.ensures.faults

pub returns-in-Refused : goal.returns-in-Refused
returns-in-Refused c = IfOk-weaker c.unaccepted_look.result _ _ (λ look said. refused_look (region_of c.args.bytes.now) c.in-Refused.refusal (string_bytes look.text) look.answered (rw c.in-Refused.is at c.in_ok-image.ensures) said) c.unaccepted_look.ensures

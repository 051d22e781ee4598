use Rattle.std.proofs.Common.{string_bytes, subst}
use Rattle.std.proofs.lemmas.Result.{IfOk-weaker}
use Rattle.nv_image_check.specs.GatheredImage.{IsFoundIn}
use Rattle.nv_logs.proofs.Looks.{found_layout, found_blocks}
use Rattle.nv_logs.proofs.AllLooks.{found_answer, unfound_look}
use Rattle.nv_logs.proofs.all.look_at_gathered.Goals as goal

pub look_in-look-requires : goal.look_in-look-requires
look_in-look-requires c =
    let is = subst (IsFoundIn c.args.gathered) c.in-Recovered.is c.in_ok-image.ensures in
    record { layout = found_layout c.args.gathered c.in-Recovered.memory c.in-Recovered.found is; blocks = found_blocks c.args.gathered c.in-Recovered.memory c.in-Recovered.found c.requires is }

pub returns-in-Recovered : goal.returns-in-Recovered
returns-in-Recovered c R are =
    let is = subst (IsFoundIn c.args.gathered) c.in-Recovered.is c.in_ok-image.ensures in
    found_answer R c.args.gathered are c.in-Recovered.memory c.in-Recovered.found is c.look_in-look.result c.look_in-look.ensures.text c.look_in-look.ensures.status c.look_in-look.ensures.faults

pub returns-in-Refused : goal.returns-in-Refused
returns-in-Refused c R are = IfOk-weaker c.unaccepted_look.result _ _
    (λ look said. unfound_look R c.args.gathered are c.in-Refused.refusal (subst (IsFoundIn c.args.gathered) c.in-Refused.is c.in_ok-image.ensures) (string_bytes look.text) look.answered said)
    c.unaccepted_look.ensures

use Rattle.std.proofs.Common.{string_bytes, subst}
use Rattle.std.proofs.lemmas.Result.{IfOk-weaker}
use Rattle.nv_image_check.specs.GatheredImage.{IsFoundIn}
use Rattle.nv_logs.proofs.RowLooks.{found_rows, unfound_rows}
use Rattle.nv_logs.proofs.telling.look_at_gathered.Goals as goal

pub returns-in-Recovered : goal.returns-in-Recovered
returns-in-Recovered g c R are =
    let is = subst (IsFoundIn c.args.gathered) c.in-Recovered.is c.in_ok-image.ensures in
    found_rows (g.T.Teller.tells c.args.teller.now) R c.args.gathered are c.in-Recovered.memory c.in-Recovered.found is c.look-look.result c.look-look.ensures.told c.look-look.ensures.faults

pub returns-in-Refused : goal.returns-in-Refused
returns-in-Refused g c R are = IfOk-weaker c.unaccepted_look.result _ _
    (λ look said. unfound_rows (g.T.Teller.tells c.args.teller.now) R c.args.gathered are c.in-Refused.refusal (subst (IsFoundIn c.args.gathered) c.in-Refused.is c.in_ok-image.ensures) (string_bytes look.text) look.answered said)
    c.unaccepted_look.ensures

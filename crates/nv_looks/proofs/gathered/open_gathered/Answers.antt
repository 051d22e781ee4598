use Rattle.std.proofs.Common.{subst}
use Rattle.nv_image_check.specs.GatheredImage.{IsFoundIn}
use Rattle.nv_looks.proofs.Opened.{can_open, open_mounted, open_refused}
use Rattle.nv_looks.proofs.gathered.open_gathered.Goals as goal

pub open-requires : goal.open-requires
open-requires c =
    let can = can_open c.args.gathered c.in-Recovered.memory c.in-Recovered.recovered (subst (IsFoundIn c.args.gathered) c.in-Recovered.is c.in_ok-image.ensures) in
    record { outcome = can.0; lists = can.2; own = can.1; numbers = can.3; tables = can.4; settled = λ i x reads. reads }

pub returns-in-Recovered : goal.returns-in-Recovered
returns-in-Recovered c = open_mounted c.args.gathered c.in-Recovered.memory c.in-Recovered.recovered (subst (IsFoundIn c.args.gathered) c.in-Recovered.is c.in_ok-image.ensures) c.open.result
    c.open.ensures.memory c.open.ensures.rows c.open.ensures.faults c.open.ensures.stopped

pub returns-in-Refused : goal.returns-in-Refused
returns-in-Refused c = open_refused c.args.gathered c.in-Refused.refusal (subst (IsFoundIn c.args.gathered) c.in-Refused.is c.in_ok-image.ensures)

use Rattle.std.proofs.Common.{subst}
use Rattle.nv_region.specs.Region.{region_of}
use Rattle.nv_image_check.specs.Recovering.{IsRecovered}
use Rattle.nv_image_check.specs.declared.imaging.Image.{Image}
use Rattle.nv_image_check.proofs.Found.{as_found}
use Rattle.nv_looks.proofs.Opens.{opens, mounted}
use Rattle.nv_looks.proofs.looking.open_image.Goals as goal

pub open-requires : goal.open-requires
open-requires c =
    let can = opens (region_of c.args.bytes.now) c.in-Recovered.memory c.in-Recovered.recovered (as_found (region_of c.args.bytes.now) c.in_ok-image.image c.in-Recovered.memory c.in-Recovered.recovered c.in-Recovered.is c.in_ok-image.ensures) in
    record { outcome = can.0; lists = can.2; own = can.1; numbers = can.3; tables = can.4; settled = λ i x reads. reads }

pub returns-in-Recovered : goal.returns-in-Recovered
returns-in-Recovered c = mounted (region_of c.args.bytes.now) c.in-Recovered.memory c.in-Recovered.recovered (as_found (region_of c.args.bytes.now) c.in_ok-image.image c.in-Recovered.memory c.in-Recovered.recovered c.in-Recovered.is c.in_ok-image.ensures) c.open.result
    c.open.ensures.memory c.open.ensures.rows c.open.ensures.faults c.open.ensures.stopped

pub returns-in-Refused : goal.returns-in-Refused
returns-in-Refused c = subst (λ (image : Image). IsRecovered (region_of c.args.bytes.now) image) c.in-Refused.is c.in_ok-image.ensures

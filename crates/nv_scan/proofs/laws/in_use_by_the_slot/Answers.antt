use Rattle.nv_scan.proofs.InUse.{has_log, by_slot}
use Rattle.nv_scan.proofs.laws.in_use_by_the_slot.Goals as goal

pub returns : goal.returns
returns c = record { slot = by_slot; log = has_log }

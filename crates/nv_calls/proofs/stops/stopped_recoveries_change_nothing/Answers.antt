use Rattle.nv_calls.proofs.Recoveries.{later_same}
use Rattle.nv_calls.proofs.stops.stopped_recoveries_change_nothing.Goals as goal

pub returns : goal.returns
returns c = λ left next s rows free o w sup same is. later_same w sup same o is

use Rattle.nv_restored.proofs.RoundTrip.{bytes_unpacked}
use Rattle.nv_restored.proofs.laws.round_trip.Goals as goal

pub returns : goal.returns
returns c = bytes_unpacked

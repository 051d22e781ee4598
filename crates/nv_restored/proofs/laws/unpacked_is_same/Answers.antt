use Rattle.nv_restored.proofs.RoundTrip.{items_unpacked}
use Rattle.nv_restored.proofs.laws.unpacked_is_same.Goals as goal

pub returns : goal.returns
returns c = items_unpacked

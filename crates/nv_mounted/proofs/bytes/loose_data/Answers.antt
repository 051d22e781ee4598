use Rattle.nv_mounted.proofs.BytesKept as made
use Rattle.nv_mounted.proofs.bytes.loose_data.Goals as goal

pub returns : goal.returns
returns c = made.loose_data

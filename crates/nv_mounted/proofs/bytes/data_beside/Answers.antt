use Rattle.nv_mounted.proofs.BytesKept as made
use Rattle.nv_mounted.proofs.bytes.data_beside.Goals as goal

pub returns-clause-slot : goal.returns-clause-slot
returns-clause-slot c = made.slot_data

pub returns-clause-behind : goal.returns-clause-behind
returns-clause-behind c = made.data_behind

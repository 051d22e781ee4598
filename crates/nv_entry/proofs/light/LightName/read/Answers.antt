use Rattle.nv_entry.proofs.light.LightName.read.Goals as goal

pub from_bytes-requires : goal.from_bytes-requires
from_bytes-requires g c = c.read_name.ensures.is_name

use Rattle.nv_inode.proofs.NameNumbers.{slot_named}
use Rattle.nv_inode.proofs.laws.slots_have_names.Goals as goal

pub returns : goal.returns
returns c = slot_named

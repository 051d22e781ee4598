use Rattle.nv_inode.proofs.BlocksOfSlots.{slots_are}
use Rattle.nv_inode.proofs.laws.slots_of_blocks.Goals as goal

pub returns : goal.returns
returns c = slots_are

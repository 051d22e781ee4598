use Rattle.nv_inode.proofs.BlocksOfSlots.{block_found}
use Rattle.nv_inode.proofs.laws.blocks_have_all_slots.Goals as goal

pub returns : goal.returns
returns c = block_found

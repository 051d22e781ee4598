use Rattle.nv_inode.proofs.TicketsOnce.{tickets_once}
use Rattle.nv_inode.proofs.laws.slots_are_in_one_block.Goals as goal

pub returns : goal.returns
returns c = tickets_once

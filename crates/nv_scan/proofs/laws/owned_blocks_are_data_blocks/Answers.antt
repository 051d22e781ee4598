use Rattle.nv_scan.proofs.Owned.{owned_block}
use Rattle.nv_scan.proofs.laws.owned_blocks_are_data_blocks.Goals as goal

pub returns : goal.returns
returns c = owned_block

use Rattle.nv_block.proofs.HexRows.{block_is}
use Rattle.nv_block.proofs.hex.block_bytes.Goals as goal

pub returns : goal.returns
returns c = block_is c.args.bytes.now c.args.block c.min-start.result c.min-end.result c.min-start.ensures c.min-end.ensures

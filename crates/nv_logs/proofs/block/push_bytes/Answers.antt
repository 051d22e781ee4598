use Rattle.nv_logs.proofs.BlockLooks.{few_bytes}
use Rattle.nv_logs.proofs.block.push_bytes.Goals as goal

pub push_hex_rows-requires-clause-few : goal.push_hex_rows-requires-clause-few
push_hex_rows-requires-clause-few c = few_bytes c.args.bytes.now c.block_bytes.result.now c.args.block c.block_bytes.ensures

use Rattle.std.proofs.Common.{arith}
use Rattle.nv_region.proofs.Added.{word_back}
use Rattle.nv_region.proofs.pieces.word_of.Goals as goal

pub returns : goal.returns
returns c = word_back c.args.eight.now c.read_u64.result c.requires (λ i. omega (arith, (c.type_inv.eight i).fits)) c.read_u64.ensures

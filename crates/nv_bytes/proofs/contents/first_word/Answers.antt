use Rattle.std.proofs.Common.{arith}
use Rattle.nv_bytes.proofs.Words.{byte_read}
use Rattle.nv_bytes.proofs.contents.first_word.Goals as goal

pub returns : goal.returns
returns c k few = byte_read c.args.bytes.now c.read_u64.result k c.requires (λ i. omega (arith, (c.type_inv.bytes i).fits)) c.read_u64.ensures few

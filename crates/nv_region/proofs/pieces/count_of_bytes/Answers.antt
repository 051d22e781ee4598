use Rattle.std.proofs.Common.{arith}
use Rattle.nv_region.proofs.Bytes.{region_back}
use Rattle.nv_region.proofs.pieces.count_of_bytes.Goals as goal

pub returns-clause-back : goal.returns-clause-back
returns-clause-back c = region_back c.args.words.now c.args.rest.now (λ i. omega (arith, (c.type_inv.words i).fits)) c.requires

use Rattle.std.proofs.Common.{◌≡◌, ◌*◌, length, arith}
use Rattle.nv_bytes.proofs.Words.{byte_of_row}
use Rattle.nv_bytes.proofs.contents.read_words.Goals as goal

pub returns-clause-read : goal.returns-clause-read
returns-clause-read c j k low few =
    let long : length c.args.bytes.now ≡ 8 * length c.read_u64_into.new.dst = omega (arith, c.requires) in
    byte_of_row c.args.bytes.now c.read_u64_into.new.dst j k long (λ i. omega (arith, (c.type_inv.bytes i).fits)) c.read_u64_into.ensures (omega (arith, low)) few

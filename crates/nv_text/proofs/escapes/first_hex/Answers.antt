use Rattle.std.proofs.Common.{arith}
use Rattle.nv_text.proofs.Spellings.{digits_found}
use Rattle.nv_text.proofs.escapes.first_hex.Goals as goal

pub returns-clause-found : goal.returns-clause-found
returns-clause-found c = digits_found c.args.text.now c.in_ok-hex_value.field-0 (omega arith) c.in_ok-hex_value.ensures.0 c.in_ok-hex_value.ensures.1

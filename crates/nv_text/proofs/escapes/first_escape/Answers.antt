use Rattle.std.proofs.Common.{arith}
use Rattle.nv_text.proofs.Spellings.{backslash_found, hex_found, hex_none, none_then}
use Rattle.std.proofs.lemmas.Option.{IfSome_then}
use Rattle.nv_text.proofs.escapes.first_escape.Goals as goal

pub returns-in-92-clause-found : goal.returns-in-92-clause-found
returns-in-92-clause-found c = backslash_found c.args.text.now (omega arith) c.in-92.is

pub returns-in-120-clause-found : goal.returns-in-120-clause-found
returns-in-120-clause-found c = IfSome_then c.first_hex.result c.first_hex.ensures.found (λ first. hex_found c.args.text.now (omega arith) c.in-120.is first.0 first.1.now)

pub returns-in-120-clause-none : goal.returns-in-120-clause-none
returns-in-120-clause-none c = none_then c.first_hex.result c.first_hex.ensures.none (hex_none c.args.text.now (omega arith) c.in-120.is)

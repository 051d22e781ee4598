use Rattle.std.proofs.Common.{arith}
use Rattle.nv_text.proofs.Spellings.{plain_found, escape_found, escape_none, none_then}
use Rattle.std.proofs.lemmas.Option.{IfSome_then}
use Rattle.nv_text.proofs.escapes.first_byte.Goals as goal

pub returns-else-first-eq92-clause-found : goal.returns-else-first-eq92-clause-found
returns-else-first-eq92-clause-found c = plain_found c.args.text.now (omega arith) c.if-first-eq92.false

pub returns-then-first-eq92-clause-found : goal.returns-then-first-eq92-clause-found
returns-then-first-eq92-clause-found c = IfSome_then c.first_escape.result c.first_escape.ensures.found (λ first. escape_found c.args.text.now (omega arith) c.if-first-eq92.true first.0 first.1.now)

pub returns-then-first-eq92-clause-none : goal.returns-then-first-eq92-clause-none
returns-then-first-eq92-clause-none c = none_then c.first_escape.result c.first_escape.ensures.none (escape_none c.args.text.now (omega arith) c.if-first-eq92.true)

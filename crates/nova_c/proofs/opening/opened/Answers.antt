use Rattle.std.proofs.Common.{Err, ap}
use Rattle.nova_c.proofs.Refusals.{bytes_refusal}
use Rattle.nova_c.proofs.opening.opened.Goals as goal

pub returns-in-Err-clause-refused : goal.returns-in-Err-clause-refused
returns-in-Err-clause-refused c =
    bytes_refusal c.args.bytes.now c.in-Err.refusal c.region_code.result (λ is. c.in-Err.ensures.length.0 (ap Err is)) c.region_code.ensures.length c.region_code.ensures.memory

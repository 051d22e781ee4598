use Rattle.std.proofs.Common.{arith}
use Rattle.nv_bytes.proofs.change.NewBytes.line.Goals as goal

pub returns : goal.returns
returns c j k old low few = c.read.ensures.read j k old (omega (arith, low)) few

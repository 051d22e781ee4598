use Rattle.std.proofs.Common.{refl}
use Rattle.nv_args.proofs.reading.shell_of.Goals as goal

pub returns-clause-some : goal.returns-clause-some
returns-clause-some c = (refl, (rw c.in_ok-image.was at c.text_of.ensures, c.is_given-force.ensures))

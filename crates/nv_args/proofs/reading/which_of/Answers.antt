use Rattle.std.proofs.Common.{refl}
use Rattle.nv_args.proofs.reading.which_of.Goals as goal

pub returns-in-None : goal.returns-in-None
returns-in-None c = (refl, c.in-None.ensures.none refl)

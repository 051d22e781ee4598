use Rattle.nv_radix.proofs.RunBits.{ones_of_run}
use Rattle.nv_radix.proofs.places.run_bits.Goals as goal

pub returns : goal.returns
returns c = λ p. ones_of_run c.args.page c.args.count p c.requires

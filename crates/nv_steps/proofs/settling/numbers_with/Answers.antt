use Rattle.std.proofs.Common.{refl}
use Rattle.nv_steps.proofs.settling.numbers_with.Goals as goal

pub returns : goal.returns
returns c = refl

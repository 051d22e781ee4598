use Rattle.std.proofs.Common.{refl}
use Rattle.nv_paths.proofs.targeting.has_most_links.Goals as goal

pub returns : goal.returns
returns c = refl

use Rattle.nv_metadata.proofs.Same.{has_metadata}
use Rattle.nv_metadata.proofs.laws.a_gathered_region_has_the_metadata.Goals as goal

pub returns : goal.returns
returns c = has_metadata

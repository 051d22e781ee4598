use Rattle.nv_restored.proofs.Counts.{links_agree}
use Rattle.nv_restored.proofs.laws.links_are_same.Goals as goal

pub returns : goal.returns
returns c = links_agree

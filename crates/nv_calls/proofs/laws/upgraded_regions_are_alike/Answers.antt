use Rattle.nv_calls.proofs.UpgradeAlike.{upgraded_alike}
use Rattle.nv_calls.proofs.laws.upgraded_regions_are_alike.Goals as goal

pub returns : goal.returns
returns c = upgraded_alike

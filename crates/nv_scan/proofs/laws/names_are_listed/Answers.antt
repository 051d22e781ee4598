use Rattle.nv_scan.proofs.NamesListed.{names_listed}
use Rattle.nv_scan.proofs.laws.names_are_listed.Goals as goal

pub returns : goal.returns
returns c = names_listed

use Rattle.nv_inode.proofs.NameNumbers.{grown_names}
use Rattle.nv_inode.proofs.laws.upgraded_names_stay.Goals as goal

pub returns : goal.returns
returns c = grown_names

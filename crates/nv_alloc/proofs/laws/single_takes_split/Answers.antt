use Rattle.nv_alloc.proofs.Singly.{single_takes_split}
use Rattle.nv_alloc.proofs.laws.single_takes_split.Goals as goal

pub returns : goal.returns
returns c = single_takes_split

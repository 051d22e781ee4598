use Rattle.nv_inode.proofs.NumberEnds.{below_end, fixed_end}
use Rattle.nv_inode.proofs.laws.numbers_have_an_end.Goals as goal

pub returns-clause-below : goal.returns-clause-below
returns-clause-below c = below_end

pub returns-clause-fixed : goal.returns-clause-fixed
returns-clause-fixed c = fixed_end

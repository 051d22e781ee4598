use Rattle.nv_journal.proofs.SuperKept.{super_undone}
use Rattle.nv_journal.proofs.laws.the_superblock_stays.Goals as goal

pub returns : goal.returns
returns c = super_undone

use Rattle.nv_history.proofs.MadeTrees.{super_stays, version_1_stays}
use Rattle.nv_history.proofs.laws.tables_stay_but_for_upgrades.Goals as goal

pub returns-clause-superblock : goal.returns-clause-superblock
returns-clause-superblock c = super_stays

pub returns-clause-tables : goal.returns-clause-tables
returns-clause-tables c = version_1_stays

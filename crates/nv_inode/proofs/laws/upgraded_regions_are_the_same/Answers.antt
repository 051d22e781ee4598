use Rattle.nv_inode.proofs.UpgradedTables.{super_before, super_after, layout_upgraded, faults_upgraded, no_blocks, same_slots}
use Rattle.nv_inode.proofs.laws.upgraded_regions_are_the_same.Goals as goal

pub returns-clause-before : goal.returns-clause-before
returns-clause-before c = λ s R left is mixed. super_before s R left mixed is

pub returns-clause-superblock : goal.returns-clause-superblock
returns-clause-superblock c = λ s R Q is up. super_after s R Q up is

pub returns-clause-layout : goal.returns-clause-layout
returns-clause-layout c = λ s R Q one up. layout_upgraded s R Q one up

pub returns-clause-faults : goal.returns-clause-faults
returns-clause-faults c = λ s R Q up. faults_upgraded s R Q up

pub returns-clause-chains : goal.returns-clause-chains
returns-clause-chains c = λ s R Q n up. no_blocks s R Q up n

pub returns-clause-slots : goal.returns-clause-slots
returns-clause-slots c = λ s R Q i layout one up. same_slots s R Q layout one up i

use Rattle.nv_inode.proofs.LinkedChains.{linked_layout, cleared_layout}
use Rattle.nv_inode.proofs.laws.linked_blocks_are_tables.Goals as goal

pub returns-clause-linked : goal.returns-clause-linked
returns-clause-linked c = λ s R Q cpu block can is. linked_layout s R Q cpu block can is

pub returns-clause-before : goal.returns-clause-before
returns-clause-before c = λ s R left cpu block can mixed. cleared_layout s R left cpu block can mixed

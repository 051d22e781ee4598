use Rattle.nv_inode.proofs.FixedLayout.{layout_fixed, fixed_faults, fixed_laid, same_words}
use Rattle.nv_inode.proofs.laws.version_1_has_fixed_tables.Goals as goal

pub returns-clause-layout : goal.returns-clause-layout
returns-clause-layout c = layout_fixed

pub returns-clause-faults : goal.returns-clause-faults
returns-clause-faults c = fixed_faults

pub returns-clause-laid : goal.returns-clause-laid
returns-clause-laid c = fixed_laid

pub returns-clause-permitted : goal.returns-clause-permitted
returns-clause-permitted c = same_words

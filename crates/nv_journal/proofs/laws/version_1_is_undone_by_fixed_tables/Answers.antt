use Rattle.nv_journal.proofs.Fixed.{end_fixed, fault_fixed, undone_fixed}
use Rattle.nv_journal.proofs.laws.version_1_is_undone_by_fixed_tables.Goals as goal

pub returns-clause-undone : goal.returns-clause-undone
returns-clause-undone c = undone_fixed

pub returns-clause-faults : goal.returns-clause-faults
returns-clause-faults c = fault_fixed

pub returns-clause-end : goal.returns-clause-end
returns-clause-end c = end_fixed

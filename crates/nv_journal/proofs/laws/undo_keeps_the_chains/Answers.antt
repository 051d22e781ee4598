use Rattle.nv_journal.proofs.KeptLinks.{faults_undone, undone_layout}
use Rattle.nv_journal.proofs.laws.undo_keeps_the_chains.Goals as goal

pub returns-clause-layout : goal.returns-clause-layout
returns-clause-layout c = undone_layout

pub returns-clause-faults : goal.returns-clause-faults
returns-clause-faults c = faults_undone

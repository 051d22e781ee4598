use Rattle.nv_mounted.proofs.Graphs as made
use Rattle.nv_mounted.proofs.names.graph_went.Goals as goal

pub returns-clause-file : goal.returns-clause-file
returns-clause-file c = λ l held i h is file. made.file_went l held i h is file

pub returns-clause-empty : goal.returns-clause-empty
returns-clause-empty c = λ l held i h is none. made.went l held i h is none

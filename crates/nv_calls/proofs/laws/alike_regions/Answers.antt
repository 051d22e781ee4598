use Rattle.nv_calls.proofs.OneOutcome.{alike_itself, alike_outcome}
use Rattle.nv_calls.proofs.AnswersAlike.{lists_same, reads_same, stats_same}
use Rattle.nv_calls.proofs.laws.alike_regions.Goals as goal

pub returns-clause-itself : goal.returns-clause-itself
returns-clause-itself c = alike_itself

pub returns-clause-outcome : goal.returns-clause-outcome
returns-clause-outcome c = alike_outcome

pub returns-clause-read : goal.returns-clause-read
returns-clause-read c = reads_same

pub returns-clause-stat : goal.returns-clause-stat
returns-clause-stat c = stats_same

pub returns-clause-list : goal.returns-clause-list
returns-clause-list c = lists_same

use Rattle.nv_calls.proofs.Decided.{both_decided, created_decided, grown_decided, less_decided, removed_decided, resized_decided, three_decided, written_decided}
use Rattle.nv_calls.proofs.laws.calls_are_decided.Goals as goal

pub returns-clause-grown : goal.returns-clause-grown
returns-clause-grown c = grown_decided

pub returns-clause-both : goal.returns-clause-both
returns-clause-both c = both_decided

pub returns-clause-created : goal.returns-clause-created
returns-clause-created c = created_decided

pub returns-clause-removed : goal.returns-clause-removed
returns-clause-removed c = removed_decided

pub returns-clause-resized : goal.returns-clause-resized
returns-clause-resized c = resized_decided

pub returns-clause-written : goal.returns-clause-written
returns-clause-written c = written_decided

pub returns-clause-less : goal.returns-clause-less
returns-clause-less c = less_decided

pub returns-clause-three : goal.returns-clause-three
returns-clause-three c = three_decided

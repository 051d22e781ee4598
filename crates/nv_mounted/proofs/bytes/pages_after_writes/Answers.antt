use Rattle.nv_mounted.proofs.DataGrows as made
use Rattle.nv_mounted.proofs.bytes.pages_after_writes.Goals as goal

pub returns-clause-written : goal.returns-clause-written
returns-clause-written c = made.written

pub returns-clause-kept : goal.returns-clause-kept
returns-clause-kept c = made.kept

pub returns-clause-cut : goal.returns-clause-cut
returns-clause-cut c = made.cut

use Rattle.nv_records.proofs.rolling.recover_journals.Goals as goal

pub returns-in-Ok-clause-settled : goal.returns-in-Ok-clause-settled
returns-in-Ok-clause-settled c = c.in-Ok.ensures.settled c.after_stop-region.ensures.settled

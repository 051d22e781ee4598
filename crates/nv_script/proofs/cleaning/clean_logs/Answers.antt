use Rattle.nv_script.proofs.cleaning.clean_logs.Goals as goal

pub returns-in-Of-clause-pages : goal.returns-in-Of-clause-pages
returns-in-Of-clause-pages c = rw c.in-Of.is c.clean_log.ensures.pages

pub returns-in-Of-clause-short : goal.returns-in-Of-clause-short
returns-in-Of-clause-short c = rw c.in-Of.is c.clean_log.ensures.short

pub returns-in-All-clause-pages : goal.returns-in-All-clause-pages
returns-in-All-clause-pages c = rw c.in-All.is c.clean_all_logs.ensures.pages

pub returns-in-All-clause-short : goal.returns-in-All-clause-short
returns-in-All-clause-short c = rw c.in-All.is c.clean_all_logs.ensures.short

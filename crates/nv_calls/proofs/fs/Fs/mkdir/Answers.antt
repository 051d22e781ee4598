-- What `make` says, of this kind.
use Rattle.nv_calls.proofs.fs.Fs.mkdir.Goals as goal

pub returns-clause-call : goal.returns-clause-call
returns-clause-call g c = c.make.ensures.call

pub returns-clause-stores : goal.returns-clause-stores
returns-clause-stores g c = c.make.ensures.stores

pub returns-clause-allowed : goal.returns-clause-allowed
returns-clause-allowed g c = c.make.ensures.allowed

pub returns-clause-refused : goal.returns-clause-refused
returns-clause-refused g c = c.make.ensures.refused

pub returns-clause-changed : goal.returns-clause-changed
returns-clause-changed g c = c.make.ensures.changed

pub returns-clause-log : goal.returns-clause-log
returns-clause-log g c = c.make.ensures.log

pub returns-clause-any_stop : goal.returns-clause-any_stop
returns-clause-any_stop g c = c.make.ensures.any_stop

pub returns-clause-tables : goal.returns-clause-tables
returns-clause-tables g c = c.make.ensures.tables

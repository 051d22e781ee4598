-- What `make_inode` says, of this kind.
use Rattle.nv_calls.proofs.fs.Fs.create_inode.Goals as goal

pub returns-clause-allowed : goal.returns-clause-allowed
returns-clause-allowed g c = c.make_inode.ensures.allowed

pub returns-clause-refused : goal.returns-clause-refused
returns-clause-refused g c = c.make_inode.ensures.refused

pub returns-clause-number : goal.returns-clause-number
returns-clause-number g c = c.make_inode.ensures.number

pub returns-clause-changed : goal.returns-clause-changed
returns-clause-changed g c = c.make_inode.ensures.changed

pub returns-clause-tables : goal.returns-clause-tables
returns-clause-tables g c = c.make_inode.ensures.tables

pub returns-clause-log : goal.returns-clause-log
returns-clause-log g c = c.make_inode.ensures.log

pub returns-clause-call : goal.returns-clause-call
returns-clause-call g c = c.make_inode.ensures.call

pub returns-clause-stores : goal.returns-clause-stores
returns-clause-stores g c = c.make_inode.ensures.stores

pub returns-clause-any_stop : goal.returns-clause-any_stop
returns-clause-any_stop g c = c.make_inode.ensures.any_stop

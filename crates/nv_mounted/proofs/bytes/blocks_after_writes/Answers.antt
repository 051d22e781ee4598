use Rattle.nv_mounted.proofs.DataGrows as made
use Rattle.nv_mounted.proofs.bytes.blocks_after_writes.Goals as goal

pub returns-clause-grows : goal.returns-clause-grows
returns-clause-grows c = λ l held i h tail more fresh size is w. made.grows l held h tail more fresh size w i is

pub returns-clause-free : goal.returns-clause-free
returns-clause-free c = λ l held i h tail more fresh size is w free undoubled. made.free_then l held h tail more fresh size w i is undoubled free

pub returns-clause-gone : goal.returns-clause-gone
returns-clause-gone c = λ l held i h tail more fresh size is w free undoubled. made.gone_is l held h tail more fresh size w i is undoubled free

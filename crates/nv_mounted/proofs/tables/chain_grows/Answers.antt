use Rattle.nv_mounted.proofs.ChainGrows as made
use Rattle.nv_mounted.proofs.tables.chain_grows.Goals as goal

pub returns-clause-can : goal.returns-clause-can
returns-clause-can c = λ R l held cpu block m version below free. made.can_link m cpu block below free version

pub returns-clause-before : goal.returns-clause-before
returns-clause-before c = made.clearing_sound

pub returns-clause-grown : goal.returns-clause-grown
returns-clause-grown c = made.linked_sound

pub returns-clause-free : goal.returns-clause-free
returns-clause-free c = made.grown_free

use Rattle.nv_mounted.proofs.Clear as made
use Rattle.nv_mounted.proofs.stores.slots_are_clear.Goals as goal

pub returns-clause-clear : goal.returns-clause-clear
returns-clause-clear c = made.slots_clear

pub returns-clause-blocks : goal.returns-clause-blocks
returns-clause-blocks c = made.data_has_none

pub returns-clause-pages : goal.returns-clause-pages
returns-clause-pages c = made.pages_have_none

pub returns-clause-chainless : goal.returns-clause-chainless
returns-clause-chainless c = made.fixed_none

pub returns-clause-fixed : goal.returns-clause-fixed
returns-clause-fixed c = made.fixed_clear

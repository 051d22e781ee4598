use Rattle.nv_mounted.proofs.Upgraded as made
use Rattle.nv_mounted.proofs.upgrading.cleared_links_are_not_shown.Goals as goal

pub returns-clause-tables : goal.returns-clause-tables
returns-clause-tables c = made.clearing_has

pub returns-clause-sound : goal.returns-clause-sound
returns-clause-sound c = λ R left l held one mixed. made.clearing_sound R left l one mixed held

pub returns-clause-mounted : goal.returns-clause-mounted
returns-clause-mounted c = made.clearing_mounted

pub returns-clause-behind : goal.returns-clause-behind
returns-clause-behind c = made.clearing_behind

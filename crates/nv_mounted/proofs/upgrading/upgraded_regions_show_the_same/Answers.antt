use Rattle.nv_mounted.proofs.Upgraded as made
use Rattle.nv_mounted.proofs.upgrading.upgraded_regions_show_the_same.Goals as goal

pub returns-clause-tables : goal.returns-clause-tables
returns-clause-tables c = made.upgraded_has

pub returns-clause-sound : goal.returns-clause-sound
returns-clause-sound c = λ R Q l held one up. made.upgraded_sound R Q l one up held

pub returns-clause-mounted : goal.returns-clause-mounted
returns-clause-mounted c = made.upgraded_mounted

pub returns-clause-behind : goal.returns-clause-behind
returns-clause-behind c = made.upgraded_behind

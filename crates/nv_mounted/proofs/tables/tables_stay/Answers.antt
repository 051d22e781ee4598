use Rattle.nv_mounted.proofs.Fronts as made
use Rattle.nv_mounted.proofs.tables.tables_stay.Goals as goal

pub returns-clause-laid : goal.returns-clause-laid
returns-clause-laid c = λ R l has. made.tables_laid has

pub returns-clause-same : goal.returns-clause-same
returns-clause-same c = made.front_tables

pub returns-clause-clear : goal.returns-clause-clear
returns-clause-clear c = λ R l held m. made.sound_clear m

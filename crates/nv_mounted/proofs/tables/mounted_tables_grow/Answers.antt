use Rattle.nv_mounted.proofs.ChainGrows as made
use Rattle.nv_mounted.proofs.tables.mounted_tables_grow.Goals as goal

pub returns-clause-mounted : goal.returns-clause-mounted
returns-clause-mounted c = made.grown_mounted

pub returns-clause-row : goal.returns-clause-row
returns-clause-row c = made.row_stays

pub returns-clause-bytes : goal.returns-clause-bytes
returns-clause-bytes c = made.linked_bytes

pub returns-clause-stopped : goal.returns-clause-stopped
returns-clause-stopped c = made.stopped_sound

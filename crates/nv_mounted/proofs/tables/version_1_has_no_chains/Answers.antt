use Rattle.nv_mounted.proofs.FixedTables as made
use Rattle.nv_mounted.proofs.tables.version_1_has_no_chains.Goals as goal

pub returns-clause-has : goal.returns-clause-has
returns-clause-has c = made.fixed_tables

pub returns-clause-only : goal.returns-clause-only
returns-clause-only c = made.only_fixed

use Rattle.nv_mounted.proofs.Growing as made
use Rattle.nv_mounted.proofs.owners.grown_by_data.Goals as goal

pub returns-clause-owns : goal.returns-clause-owns
returns-clause-owns c = λ l held i h new fresh is by. made.data_owns l held i h new is fresh by

pub returns-clause-free : goal.returns-clause-free
returns-clause-free c = λ l held i h new fresh is by. made.free_with_data l held i h new is fresh by

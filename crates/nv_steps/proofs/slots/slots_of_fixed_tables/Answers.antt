use Rattle.nv_steps.proofs.FixedSlots.{fixed_address, fixed_numbers}
use Rattle.nv_steps.proofs.slots.slots_of_fixed_tables.Goals as goal

pub returns-clause-numbers : goal.returns-clause-numbers
returns-clause-numbers c = fixed_numbers

pub returns-clause-address : goal.returns-clause-address
returns-clause-address c = fixed_address

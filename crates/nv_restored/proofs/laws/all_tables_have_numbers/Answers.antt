use Rattle.nv_restored.proofs.Slots.{all_have_numbers}
use Rattle.nv_restored.proofs.laws.all_tables_have_numbers.Goals as goal

pub returns : goal.returns
returns c s count some more = all_have_numbers s some count more

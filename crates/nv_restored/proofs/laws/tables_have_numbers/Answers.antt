use Rattle.nv_restored.proofs.Slots.{table_has_numbers}
use Rattle.nv_restored.proofs.laws.tables_have_numbers.Goals as goal

pub returns : goal.returns
returns c s cpu count some more = table_has_numbers s some cpu count more

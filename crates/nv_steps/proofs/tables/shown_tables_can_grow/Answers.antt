use Rattle.nv_steps.proofs.GrownTable.{shown_can}
use Rattle.nv_steps.proofs.tables.shown_tables_can_grow.Goals as goal

pub returns : goal.returns
returns c = shown_can

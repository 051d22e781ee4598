use Rattle.std.proofs.Common.{◌∙◌}
use Rattle.nv_rows.proofs.SlotRows.{count_of_entries, rows_rise}
use Rattle.nv_rows.proofs.rows.Rows.len.Goals as goal

pub returns-clause-count : goal.returns-clause-count
returns-clause-count c = rw (← c.self.view_is) (c.len.ensures ∙ count_of_entries c.self.inside.rows.slots)

pub returns-clause-rising : goal.returns-clause-rising
returns-clause-rising c = rw (← c.self.view_is) (rows_rise 0 c.self.inside.rows.slots c.self.invariant.stand)

use Rattle.nv_rows.proofs.SlotRows.{rows_of_entries, numbers_of_entries, rows_rise}
use Rattle.nv_rows.proofs.rows.Rows.iter.Goals as goal

pub returns-clause-rows : goal.returns-clause-rows
returns-clause-rows c = rw (← c.self.view_is, c.iter.ensures.listed) (rows_of_entries 0 c.self.inside.rows.slots)

pub returns-clause-numbers : goal.returns-clause-numbers
returns-clause-numbers c = rw (← c.self.view_is, c.iter.ensures.listed) (numbers_of_entries 0 c.self.inside.rows.slots c.self.invariant.stand)

pub returns-clause-rising : goal.returns-clause-rising
returns-clause-rising c = rw (← c.self.view_is) (rows_rise 0 c.self.inside.rows.slots c.self.invariant.stand)

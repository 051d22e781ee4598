use Rattle.std.proofs.Common.{sym, ◌∙◌}
use Rattle.nv_rows.proofs.SlotRows.{row_at_slot}
use Rattle.nv_rows.proofs.rows.Rows.get.Goals as goal

pub returns : goal.returns
returns c = rw (← c.self.view_is) (c.get.ensures ∙ sym (row_at_slot c.self.inside.rows.slots c.args.inode c.self.invariant.stand))

use Rattle.std.proofs.Common.{append_assoc}
use Rattle.nv_map.proofs.text.push_legend.Goals as goal

pub returns : goal.returns
returns c = simp append_assoc (rw c.table_word-table.ensures at c.writeln.ensures.bytes)

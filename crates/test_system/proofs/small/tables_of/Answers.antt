use Rattle.std.proofs.Common.{◌∙◌}
use Rattle.nv_inode.proofs.FixedLayout.{layout_fixed}
use Rattle.test_system.proofs.small.tables_of.Goals as goal

pub returns : goal.returns
returns c = c.in_ok-tables.ensures.layout ∙ layout_fixed c.args.sup.now c.args.memory.now.region c.requires.version

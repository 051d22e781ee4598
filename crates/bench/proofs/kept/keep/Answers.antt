use Rattle.bench.proofs.OneRow.{one_below, one_has}
use Rattle.bench.proofs.kept.keep.Goals as goal

pub cross_faults-requires : goal.cross_faults-requires
cross_faults-requires c = rw (c.in_ok-list.ensures, c.in_ok-push.ensures.ok, c.new-rows.ensures) (one_below c.args.tables.now.layout c.args.row.inode c.are_laid.ensures c.requires)

pub from_rows-requires : goal.from_rows-requires
from_rows-requires c = rw (c.in_ok-list.ensures, c.in_ok-push.ensures.ok, c.new-rows.ensures) (one_has c.args.tables.now.layout c.args.row.inode c.are_laid.ensures c.requires)

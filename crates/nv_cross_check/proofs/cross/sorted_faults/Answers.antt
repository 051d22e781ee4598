use Rattle.nv_cross_check.proofs.CrossRows.{sorted_listed}
use Rattle.nv_cross_check.proofs.cross.sorted_faults.Goals as goal

pub returns : goal.returns
returns c = sorted_listed c.args.tables.now.listings c.push_all.new.faults.items c.sort_faults.new.faults.items c.in_ok-push_all.ensures c.sort_faults.ensures

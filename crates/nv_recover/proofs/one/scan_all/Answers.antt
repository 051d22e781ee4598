use Rattle.std.proofs.Common.{refl}
use Rattle.nv_rows.proofs.UsedRows.{slots_below}
use Rattle.nv_recover.proofs.Inodes.{rows_slotted}
use Rattle.nv_recover.proofs.Owned.{owned_moved}
use Rattle.nv_recover.proofs.one.scan_all.Goals as goal

pub owned-requires : goal.owned-requires
owned-requires g c = let is = c.in_ok-inodes.ensures in (g.P.Pmem.region c.args.memory.now, is.1, rw c.as_rows.ensures is.4)

pub cross_faults-requires : goal.cross_faults-requires
cross_faults-requires g c = slots_below c.args.tables.now.layout c.are_laid.ensures (rows_slotted c.are_laid.ensures c.in_ok-inodes.ensures.2 _ refl)

pub returns : goal.returns
returns g c = let is = c.in_ok-inodes.ensures in record {
  pieces = is.0;
  inodes = is.2;
  owned = owned_moved c.args.tables.now.layout.sup is.0 is.1 c.in_ok-owned.owned is.3 (c.in_ok-owned.ensures (g.P.Pmem.region c.args.memory.now) is.1 (rw c.as_rows.ensures is.4));
  cross = c.in_ok-cross.ensures;
}

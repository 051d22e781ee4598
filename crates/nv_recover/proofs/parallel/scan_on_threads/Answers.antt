use Rattle.std.proofs.Common.{refl}
use Rattle.nv_rows.proofs.UsedRows.{slots_below}
use Rattle.nv_recover.proofs.Claims.{claims_covered}
use Rattle.nv_recover.proofs.Inodes.{rows_slotted}
use Rattle.nv_recover.proofs.Owned.{owned_claimed}
use Rattle.nv_recover.proofs.parallel.scan_on_threads.Goals as goal

pub cross_faults-requires : goal.cross_faults-requires
cross_faults-requires g c = slots_below c.args.tables.now.layout c.are_laid.ensures (rows_slotted c.are_laid.ensures c.in_ok-inodes.ensures.1 _ refl)

pub owned_of-requires : goal.owned_of-requires
owned_of-requires g c = let is = c.in_ok-inodes.ensures in record { covers = claims_covered c.args.tables.now.layout is.0 c.in_ok-inodes.claimed c.are_laid.ensures is.1.pieces_are is.2 refl refl }

pub returns : goal.returns
returns g c = let is = c.in_ok-inodes.ensures in record {
  pieces = is.0;
  inodes = is.1;
  owned = owned_claimed c.args.tables.now.layout.sup is.0 c.in_ok-inodes.claimed c.in_ok-owned.owned is.2 c.in_ok-owned.ensures.first c.in_ok-owned.ensures.doubled;
  cross = c.in_ok-cross.ensures;
}

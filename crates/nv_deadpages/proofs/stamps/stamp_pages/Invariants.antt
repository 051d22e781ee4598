use Rattle.std.proofs.Common.{◌≡◌, ◌≤◌}
use Rattle.nv_logpage.specs.Progress.{remaining}
use Rattle.nv_deadpages.specs.Stamps.{AreStampsSoFar}
use Rattle.nv_deadpages.proofs.stamps.stamp_pages.Given as goal

abbrev pub invariant-reading : goal.invariant-reading
invariant-reading g l = record {
  sup : l.reader.sup ≡ l.sup;
  tail : l.reader.tail ≡ l.row.tail;
  end : l.end ≤ 262144;
  so_far : AreStampsSoFar (g.P.Pmem.region l.memory) l.row l.reader l.stamps;
}

abbrev pub decreases-reading : goal.decreases-reading
decreases-reading g l = remaining l.reader

use Rattle.std.proofs.Common.{◌≡◌}
use Rattle.nv_logpage.specs.Progress.{remaining}
use Rattle.nv_deadpages.specs.Changes.{AreChangesSoFar}
use Rattle.nv_deadpages.proofs.changes.find_changes.Given as goal

abbrev pub invariant-reading : goal.invariant-reading
invariant-reading g l = record {
  sup : l.reader.sup ≡ l.sup;
  tail : l.reader.tail ≡ l.row.tail;
  bound : l.found.bound ≡ l.sup.blocks;
  so_far : AreChangesSoFar (g.P.Pmem.region l.memory) l.row l._created l.stamps.index l.row.index l.found.blocks l.reader l.fold;
}

abbrev pub decreases-reading : goal.decreases-reading
decreases-reading g l = remaining l.reader

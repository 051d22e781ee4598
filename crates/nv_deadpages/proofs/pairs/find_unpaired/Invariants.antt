use Rattle.std.proofs.Common.{◌≡◌}
use Rattle.nv_logpage.specs.Progress.{remaining}
use Rattle.nv_deadpages.specs.Pairs.{AreUnpairedSoFar}
use Rattle.nv_deadpages.proofs.pairs.find_unpaired.Given as goal

abbrev pub invariant-reading : goal.invariant-reading
invariant-reading g l = record {
  sup : l.reader.sup ≡ l.sup;
  tail : l.reader.tail ≡ l.row.tail;
  bound : l.found.bound ≡ l.sup.blocks;
  so_far : AreUnpairedSoFar (g.P.Pmem.region l.memory) l.row l._created l.fold l.found.blocks l.reader l.looks l.odd;
}

abbrev pub decreases-reading : goal.decreases-reading
decreases-reading g l = remaining l.reader

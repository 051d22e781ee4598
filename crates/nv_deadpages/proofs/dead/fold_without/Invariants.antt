use Rattle.std.proofs.Common.{◌≡◌}
use Rattle.nv_logpage.specs.Progress.{remaining}
use Rattle.nv_deadpages.specs.ReadingWithout.{IsReadSoFarWithout}
use Rattle.nv_deadpages.proofs.dead.fold_without.Given as goal

abbrev pub invariant-reading : goal.invariant-reading
invariant-reading g l = record {
  sup : l.reader.sup ≡ l.sup;
  tail : l.reader.tail ≡ l.row.tail;
  so_far : IsReadSoFarWithout (g.P.Pmem.region l.memory) l.row l._created l.page l.reader l.fold;
}

abbrev pub decreases-reading : goal.decreases-reading
decreases-reading g l = remaining l.reader

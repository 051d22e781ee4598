use Rattle.std.proofs.Common.{◌≡◌}
use Rattle.nv_logpage.specs.Progress.{remaining}
use Rattle.nv_scan.specs.Reading.{IsReadSoFar}
use Rattle.nv_scan.proofs.reading.read_log.Given as goal

abbrev pub invariant-reading : goal.invariant-reading
invariant-reading g l = record {
  sup : l.reader.sup ≡ l.sup;
  tail : l.reader.tail ≡ l.used.slot.tail;
  so_far : IsReadSoFar (g.P.Pmem.region l.memory) l.used.slot.head l.used.kind l.used.inode l.used.slot.created l.reader l.fold;
}

abbrev pub decreases-reading : goal.decreases-reading
decreases-reading g l = remaining l.reader

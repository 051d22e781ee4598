use Rattle.std.proofs.Common.{◌≤◌, ℕ}
use Rattle.nv_logpage.specs.Progress.{gone_to, remaining}
use Rattle.nv_logpage.specs.Places.{IsPlaceUpTo}
use Rattle.nv_scan.specs.Reading.{IsReadSoFar}
use Rattle.nv_scan.proofs.reading.take_writes.Given as goal

abbrev pub invariant-loop-e : goal.invariant-loop-e
invariant-loop-e g l = record {
  place : IsPlaceUpTo l.reader.sup l.reader.tail l.at l.end;
  read : (head created : ℕ) → IsReadSoFar (g.P.Pmem.region l.memory) head l.used.kind l.used.inode created l.fn.reader l.fn.fold
      → IsReadSoFar (g.P.Pmem.region l.memory) head l.used.kind l.used.inode created (gone_to l.reader l.at) l.fold;
  less : remaining (gone_to l.reader l.at) ≤ remaining l.fn.reader;
}

abbrev pub decreases-loop-e : goal.decreases-loop-e
decreases-loop-e g l = remaining (gone_to l.reader l.at)

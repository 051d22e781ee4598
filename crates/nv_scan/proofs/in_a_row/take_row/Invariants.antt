use Rattle.std.proofs.Common.{◌<◌, ◌≤◌, ◌+◌, ℕ}
use Rattle.nv_super.specs.declared.kind.Kind.TheVariants.{File}
use Rattle.nv_logpage.specs.Progress.{gone_to, remaining}
use Rattle.nv_logpage.specs.Places.{IsPlaceUpTo}
use Rattle.nv_scan.specs.Reading.{IsReadSoFar}
use Rattle.nv_scan.proofs.InARow.{kept_with, row_before}
use Rattle.nv_scan.proofs.in_a_row.take_row.Given as goal

abbrev pub invariant-loop-e : goal.invariant-loop-e
invariant-loop-e g l = record {
  place : IsPlaceUpTo l.sup l.reader.tail l.at l.end;
  read : (head i created : ℕ) → IsReadSoFar (g.P.Pmem.region l.memory) head File i created (gone_to l.reader l.from) l.fold
      → IsReadSoFar (g.P.Pmem.region l.memory) head File i created (gone_to l.reader l.at) (kept_with l.fold l.numbers (row_before l.first l.count l.fold.extents));
  less : remaining (gone_to l.reader l.at) ≤ remaining (gone_to l.reader l.from);
  few : 0 < l.count → l.first.offset + l.count ≤ 262144;
  inside : 0 < l.count → l.first.block + l.count ≤ l.sup.blocks;
}

abbrev pub decreases-loop-e : goal.decreases-loop-e
decreases-loop-e g l = remaining (gone_to l.reader l.at)

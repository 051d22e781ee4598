use Rattle.std.proofs.Common.{◌≡◌}
use Rattle.nv_logpage.specs.Progress.{remaining}
use Rattle.nv_deadpages.specs.InTurn.{IsReadSoFarWithoutPages}
use Rattle.nv_deadpages.proofs.in_turn.fold_without_pages.Given as goal

abbrev pub invariant-reading : goal.invariant-reading
invariant-reading g l = record {
  sup : l.reader.sup ≡ l.sup;
  tail : l.reader.tail ≡ l.row.tail;
  so_far : IsReadSoFarWithoutPages (g.P.Pmem.region l.memory) l.row l._created l.out.blocks l.reader l.fold;
}

abbrev pub decreases-reading : goal.decreases-reading
decreases-reading g l = remaining l.reader

use Rattle.std.proofs.Common.{◌≡◌, ◌≤◌, ◌*◌, List, length}
use Rattle.nv_scan.specs.Heads.{heads_of}
use Rattle.nv_scan.specs.Unused.{KnowsUnused}
use Rattle.nv_scan.specs.Work.{claims_in}
use Rattle.nv_scan.specs.declared.piece.Piece.{Piece}
use Rattle.nv_outcome.specs.Parts.{AreMaps}
use Rattle.nv_recover.specs.Scanned.{AreFirst, Cover}
use Rattle.nv_recover.proofs.one.scan_tickets.Given as goal

abbrev pub invariant-loop-ticket : goal.invariant-loop-ticket
invariant-loop-ticket g l = record {
  same : l.scanner ≡ l.tables.layout.sup;
  room : length l.each.items ≡ 32;
  first : (pieces : List Piece) × AreFirst (g.P.Pmem.region l.memory) l.tables.layout l.ticket pieces l.inodes × AreMaps (claims_in pieces) l.sets.first.items l.sets.second.items;
  heads : l.heads.items ≡ heads_of l.inodes.rows.items;
  known : KnowsUnused (g.P.Pmem.region l.memory) l.unused;
  set : l.tables.layout.sup.blocks ≤ 64 * length l.unused;
  cover : Cover l.tables.layout.sup l.sets.first.items l.sets.second.items;
}

use Rattle.std.proofs.Common.{◌≡◌, length}
use Rattle.nv_scan.specs.Heads.{heads_of}
use Rattle.nv_recover.specs.Scanned.{AreOfTickets, all_claims}
use Rattle.nv_recover.proofs.replaying.scan_apart.Given as goal

abbrev pub invariant-loop-ticket : goal.invariant-loop-ticket
invariant-loop-ticket g l = record {
  same : l.scanner ≡ l.tables.layout.sup;
  room : length l.each.items ≡ 32;
  heads : l.heads.items ≡ heads_of l.inodes.rows.items;
  first : AreOfTickets (g.P.Pmem.region l.memory) l.tables.layout l.ticket l.inodes l.work.items;
  claims : l.claims.items ≡ all_claims l.work.items;
}

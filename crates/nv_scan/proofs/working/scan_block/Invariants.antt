use Rattle.std.proofs.Common.{◌≡◌, ◌≤◌, ◌+◌, ◌*◌, length, take}
use Rattle.nv_scan.specs.Tickets.{number_in, numbers_to}
use Rattle.nv_scan.specs.Work.{AreNext, claims_among}
use Rattle.nv_scan.proofs.working.scan_block.Given as goal

abbrev pub invariant-loop : goal.invariant-loop
invariant-loop g l = record {
  scanner : l.scanner ≡ l.fn.scanner;
  room : length l.each.items ≡ 32;
  count : l.count ≤ l.counter;
  at : l.at ≡ l.block.start + 128 * l.counter;
  inode : l.inode ≡ number_in l.tables.layout l.block l.counter;
  next : AreNext (g.P.Pmem.region l.memory) l.tables.layout (numbers_to l.tables.layout l.block l.counter) l.fn.inodes l.inodes (claims_among (take l.count l.each.items));
}

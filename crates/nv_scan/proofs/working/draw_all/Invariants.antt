use Rattle.std.proofs.Common.{◌≡◌, ◌-◌, ◌*◌, ◌≤◌, length}
use Rattle.nv_claimcore.specs.Claims.{above}
use Rattle.nv_scan.specs.Heads.{heads_of}
use Rattle.std.specs.List.{All}
use Rattle.nv_scan.specs.Tickets.{ticket_count}
use Rattle.nv_scan.specs.Unused.{KnowsUnused}
use Rattle.nv_scan.specs.Work.{IsWork, tickets_among}
use Rattle.nv_scan.proofs.working.draw_all.Given as goal

abbrev pub invariant-loop-ticket : goal.invariant-loop-ticket
invariant-loop-ticket g l = record {
  scanner : l.tables.layout.sup ≡ l.scanner;
  map : l.seat.map ≡ l.map;
  number : l.seat.number ≡ l.fn.seat.number;
  seats : l.seat.view.seats ≡ 1;
  room : length l.each.items ≡ 32;
  known : KnowsUnused (g.P.Pmem.region l.memory) l.unused;
  set : l.tables.layout.sup.blocks ≤ 64 * length l.unused;
  heads : l.heads.items ≡ heads_of l.inodes.rows.items;
  work : IsWork (g.P.Pmem.region l.memory) l.tables.layout l.seat.view l.inodes.rows.items l.inodes.faults.items;
  entered : All (g.G.Gate.entered l.gate l.fn.seat.number) (tickets_among (ticket_count l.tables.layout) l.seat.view.numbers);
}

abbrev pub decreases-loop-ticket : goal.decreases-loop-ticket
decreases-loop-ticket g l = l.map.sizes.tickets - above l.seat.view.numbers

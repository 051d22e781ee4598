use Rattle.std.proofs.Common.{◌≡◌, ◌+◌, ◌<◌, vec_len}
use Rattle.std.specs.List.{All}
use Rattle.nv_claimcore.specs.Claims.{past}
use Rattle.nv_scan.specs.Tickets.{ticket_count}
use Rattle.nv_scan.specs.Work.{Returned}
use Rattle.nv_recover.specs.Workers.{IsKeptWork}
use Rattle.nv_recover.proofs.workers.join_all.Given as goal

abbrev pub invariant-loop-next : goal.invariant-loop-next
invariant-loop-next g l = record {
  map : l.seat.map ≡ l.map;
  seats : l.seat.view.seats + vec_len l.results ≡ vec_len l.fn.results;
  rest : All (Returned (g.P.Pmem.region l._memory) l._tables.layout l.map) l.results.items;
  ended : 0 < past (ticket_count l._tables.layout) l.seat.view.numbers;
  work : IsKeptWork (g.P.Pmem.region l._memory) l._tables.layout l.seat.view l.inodes.rows.items l.inodes.faults.items;
}

abbrev pub decreases-loop-next : goal.decreases-loop-next
decreases-loop-next g l = vec_len l.results

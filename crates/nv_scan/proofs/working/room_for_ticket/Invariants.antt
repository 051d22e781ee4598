use Rattle.std.proofs.Common.{◌≡◌, length}
use Rattle.nv_scan.proofs.working.room_for_ticket.Given as goal

abbrev pub invariant-loop : goal.invariant-loop
invariant-loop l = length l.each.items ≡ l.counter

use Rattle.std.proofs.Common.{◌+◌, ◌≤◌, length}
use Rattle.nv_scan.proofs.row_list.empty.Given as goal

abbrev pub invariant-loop : goal.invariant-loop
invariant-loop l = length l.fn.heads.items + l.fn.heads.room ≤ length l.heads.items + l.heads.room

abbrev pub decreases-loop : goal.decreases-loop
decreases-loop l = length l.heads.items

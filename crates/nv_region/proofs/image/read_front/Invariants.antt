use Rattle.std.proofs.Common.{◌≡◌, ◌≤◌, ◌++◌, length, take, drop, max, vec_capacity}
use Rattle.nv_region.specs.Region.{words_of}
use Rattle.nv_region.proofs.image.read_front.Given as goal

abbrev pub invariant-loop-number : goal.invariant-loop-number
invariant-loop-number l = record {
  from : length l.fn.front.items ≤ l.number;
  to : l.number ≤ max (length l.fn.front.items) l.count;
  room : vec_capacity l.fn.front ≤ vec_capacity l.front;
  so_far : l.front.items ≡ l.fn.front.items ++ drop (length l.fn.front.items) (take l.number (words_of l.bytes));
}

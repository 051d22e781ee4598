use Rattle.std.proofs.Common.{◌≡◌, ◌≤◌, ◌+◌, take}
use Rattle.std.specs.List.{count_by, range_with_len}
use Rattle.nv_radix.specs.Pages.{block_at}
use Rattle.nv_inspect.specs.Entry.{lies_in}
use Rattle.nv_inspect.proofs.entries.pages_standing.Given as goal

-- what was counted so far
abbrev pub invariant-loop-k : goal.invariant-loop-k
invariant-loop-k l = (l.stands ≡ count_by (λ k. lies_in (block_at l.index (l.e.offset + k)) (l.e.block + k)) (take l.k (range_with_len 0 l.e.count))) × (l.stands ≤ l.k)

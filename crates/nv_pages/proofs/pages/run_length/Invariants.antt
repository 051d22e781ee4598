use Rattle.std.proofs.Common.{◌≡◌, ◌-◌, ◌+◌, ◌≤◌, ◌<◌, ℕ, Some}
use Rattle.nv_radix.specs.Pages.{block_at}
use Rattle.nv_pages.proofs.pages.run_length.Given as goal

abbrev pub decreases-loop-count : goal.decreases-loop-count
decreases-loop-count l = l.most - l.count

abbrev pub invariant-loop-count : goal.invariant-loop-count
invariant-loop-count l = record {
  some : 0 < l.count;
  few : l.count ≤ l.most;
  run : (k : ℕ) → k < l.count → block_at l.index (l.page + k) ≡ Some (l.block + k);
}

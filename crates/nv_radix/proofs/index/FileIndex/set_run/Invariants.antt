use Rattle.std.proofs.Common.{◌≡◌, ℕ, ◌+◌, ◌-◌, ◌<◌, ◌≤◌, if◌then◌else◌, Some}
use Rattle.nv_radix.specs.Pages.{block_at, is_ready, in_run}
use Rattle.nv_radix.proofs.index.FileIndex.set_run.Given as goal

abbrev pub invariant-loop-done : goal.invariant-loop-done
invariant-loop-done l = (l.done ≤ l.count) × (0 < l.done → l.page + l.done ≤ 262144) × ((p : ℕ) → block_at l.self p ≡ (if in_run l.page l.done p then Some (l.block + (p - l.page)) else block_at l.fn.self p)) × ((p : ℕ) → is_ready l.self p ≡ is_ready l.fn.self p)

abbrev pub decreases-loop-done : goal.decreases-loop-done
decreases-loop-done l = l.count - l.done

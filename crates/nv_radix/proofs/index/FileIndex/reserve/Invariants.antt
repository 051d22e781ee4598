use Rattle.std.proofs.Common.{◌≡◌, ℕ, ◌+◌, ◌/◌, ◌<◌, ◌≤◌, true}
use Rattle.nv_radix.specs.Pages.{block_at, is_ready}
use Rattle.nv_radix.proofs.index.FileIndex.reserve.Given as goal

abbrev pub invariant-loop-leaf : goal.invariant-loop-leaf
invariant-loop-leaf l = ((p : ℕ) → block_at l.self p ≡ block_at l.fn.self p) × ((p : ℕ) → is_ready l.fn.self p ≡ true → is_ready l.self p ≡ true) × ((p : ℕ) → l.page ≤ p → p < l.page + l.count → p / 64 < l.leaf → is_ready l.self p ≡ true)

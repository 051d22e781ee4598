use Rattle.std.proofs.Common.{◌≡◌, ℕ, true, Some}
use Rattle.nv_radix.specs.Pages.{block_at, is_ready}
use Rattle.nv_radix.proofs.Fronts.{over}
use Rattle.nv_radix.proofs.extent_map.put_leaf.Given as goal

abbrev pub invariant-loop-page : goal.invariant-loop-page
invariant-loop-page l = record {
  set : (p : ℕ) → block_at l.index p ≡ over l.page l.leaf (block_at l.fn.index p) p;
  ready : (p b : ℕ) → block_at l.leaf p ≡ Some b → is_ready l.index p ≡ true;
}

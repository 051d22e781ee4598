use Rattle.std.proofs.Common.{◌≡◌, ℕ, length, IsTrue}
use Rattle.nv_blockset.specs.BlockSet.{is_set}
use Rattle.nv_region.proofs.Alternating.{IsAhead}
use Rattle.nv_region.proofs.stored.unmark.Given as goal

abbrev pub invariant-loop-row : goal.invariant-loop-row
invariant-loop-row l = record {
  count : length l.marks ≡ length l.initial.marks;
  all : (p : ℕ) → IsTrue (is_set l.marks p) → IsAhead l.row-index l.rows p;
}

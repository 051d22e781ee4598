use Rattle.std.proofs.Common.{◌≡◌, ◌⊎◌, ℕ}
use Rattle.std.specs.List.{Contains}
use Rattle.nv_deadpages.proofs.marks.add_blocks.Given as goal

abbrev pub invariant-loop-k : goal.invariant-loop-k
invariant-loop-k l = record {
  bound : l.blocks.bound ≡ l.sup.blocks;
  only : (b : ℕ) → Contains l.blocks.blocks b → Contains l.more b ⊎ Contains l.fn.blocks.blocks b;
}

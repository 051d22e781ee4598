use Rattle.std.proofs.Common.{◌≡◌, ◌||◌, ℕ, length, take, eqb}
use Rattle.std.specs.List.{list_any}
use Rattle.nv_blockset.specs.BlockSet.{is_set}
use Rattle.nv_inode.proofs.chains.mark_blocks.Given as goal

abbrev pub invariant-loop-block : goal.invariant-loop-block
invariant-loop-block l = record {
  count : length l.marks ≡ length l.initial.marks;
  marked : (b : ℕ) → is_set l.marks b ≡ (is_set l.initial.marks b || list_any (eqb b) (take l.block-index l.blocks));
}

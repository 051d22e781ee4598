use Rattle.std.proofs.Common.{◌≡◌, ℕ, IsTrue, true, length, drop, eqb}
use Rattle.std.specs.List.{list_any}
use Rattle.nv_blockset.specs.BlockSet.{is_set}
use Rattle.nv_blockset.proofs.listed.clear_words.Given as goal

abbrev pub invariant-loop-block : goal.invariant-loop-block
invariant-loop-block l = record {
  count : length l.words ≡ length l.initial.words;
  all : (b : ℕ) → IsTrue (is_set l.words b) → list_any (eqb b) (drop l.block-index l.blocks) ≡ true;
}

use Rattle.std.proofs.Common.{◌≡◌, ◌/◌, ◌≤◌, ◌<◌, ℕ, length}
use Rattle.nv_blockset.specs.BlockSet.{has}
use Rattle.nv_blockset.proofs.rows.empty_words.Given as goal

abbrev pub invariant-loop-word : goal.invariant-loop-word
invariant-loop-word l = record {
  count : length l.words ≡ length l.fn.words;
  none : (b : ℕ) → l.from / 64 ≤ b / 64 → b / 64 < l.word → has l.words b ≡ 0;
  others : (b : ℕ) → (l.from / 64 ≤ b / 64 → b / 64 < l.word → ⊥) → has l.words b ≡ has l.fn.words b;
}

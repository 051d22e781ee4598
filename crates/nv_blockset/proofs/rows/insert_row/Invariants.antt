use Rattle.std.proofs.Common.{◌≡◌, ◌-◌, ◌≤◌, ◌<◌, ℕ, length}
use Rattle.nv_blockset.specs.BlockSet.{has}
use Rattle.nv_blockset.proofs.rows.insert_row.Given as goal

abbrev pub invariant-loop-here : goal.invariant-loop-here
invariant-loop-here l = record {
  from : l.from ≤ l.here;
  to : l.here ≤ l.to;
  count : length l.words ≡ length l.initial.words;
  row : (b : ℕ) → l.from ≤ b → b < l.here → has l.words b ≡ 1;
  others : (b : ℕ) → (l.from ≤ b → b < l.here → ⊥) → has l.words b ≡ has l.initial.words b;
}

abbrev pub decreases-loop-here : goal.decreases-loop-here
decreases-loop-here l = l.to - l.here

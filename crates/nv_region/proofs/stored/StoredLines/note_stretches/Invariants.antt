use Rattle.std.proofs.Common.{◌≡◌, ◌⊎◌, ◌<◌, ◌≤◌, ◌-◌, ◌/◌, ℕ, true, List, length}
use Rattle.nv_region.specs.StoredLines.{is_stored, word_before}
use Rattle.nv_region.proofs.stored.StoredLines.note_stretches.Given as goal

abbrev pub invariant-loop-here : goal.invariant-loop-here
invariant-loop-here l = record {
  from : l.first ≤ l.here;
  to : l.here ≤ l.end;
  total : l.self.total ≡ l.fn.self.total;
  lines : (p : ℕ) → is_stored l.self p ≡ true → (is_stored l.fn.self p ≡ true) ⊎ (p < l.here);
  here : (after : List ℕ) (i : ℕ) → i < length l.words → l.first ≤ i / 8 → i / 8 < l.here → word_before l.self.rows l.self.kept after i ≡ word_before l.fn.self.rows l.fn.self.kept l.words i;
  others : (after : List ℕ) (i : ℕ) → i < length l.words → (l.first ≤ i / 8 → i / 8 < l.here → ⊥) → word_before l.self.rows l.self.kept after i ≡ word_before l.fn.self.rows l.fn.self.kept after i;
}

abbrev pub decreases-loop-here : goal.decreases-loop-here
decreases-loop-here l = l.end - l.here

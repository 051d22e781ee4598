use Rattle.std.proofs.Common.{◌≡◌, ◌≤◌, ◌*◌, ℕ, length, get_or}
use Rattle.nv_region.specs.Kept.{so_far}
use Rattle.nv_region.proofs.keeping.alternate_row.Given as goal

abbrev pub invariant-loop-i : goal.invariant-loop-i
invariant-loop-i g l =
    (so_far l.turn l.i l.words g.fenced ≡ so_far l.initial.turn (8 * l.fn.row.first) l.initial.words g.fenced) × (length l.words ≡ length g.fenced)
    × ((k : ℕ) → l.i ≤ k → get_or l.words k 0 ≡ get_or l.initial.words k 0)

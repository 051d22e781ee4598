use Rattle.std.proofs.Common.{ℕ, ◌+◌, ◌<◌, get_or}
use Rattle.std.specs.List.{Contains}
use Rattle.nv_deadpages.proofs.needed.has_all_before_the_last.Given as goal

-- those before this one are known
abbrev pub invariant-loop-behind : goal.invariant-loop-behind
invariant-loop-behind l = (k : ℕ) → k + 1 < l.behind → Contains l.needed.blocks (get_or l.pages k 0)

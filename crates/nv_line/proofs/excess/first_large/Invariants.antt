use Rattle.std.proofs.Common.{◌≡◌, ◌+◌, map, drop}
use Rattle.nv_line.specs.Excess.{first_large}
use Rattle.nv_line.proofs.excess.first_large.Given as goal

-- none is among the words so far
abbrev pub invariant-loop-index : goal.invariant-loop-index
invariant-loop-index l = first_large l.form 2 (map (λ word. word.now) l.words) ≡ first_large l.form (l.index + 2) (map (λ word. word.now) (drop l.index l.words))

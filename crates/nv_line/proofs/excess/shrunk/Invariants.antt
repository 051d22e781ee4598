use Rattle.std.proofs.Common.{◌≡◌, ◌+◌, ◌++◌, map, drop}
use Rattle.nv_line.specs.Excess.{shrunk}
use Rattle.nv_line.proofs.excess.shrunk.Given as goal

-- the words so far are copied or shrunk
abbrev pub invariant-loop-index : goal.invariant-loop-index
invariant-loop-index l = shrunk l.form 2 (map (λ word. word.now) l.words) ≡ map (λ word. word.now) l.small.items ++ shrunk l.form (l.index + 2) (map (λ word. word.now) (drop l.index l.words))

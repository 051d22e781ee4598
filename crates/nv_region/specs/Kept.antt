-- The words that a stop leaves, by which of them it keeps.
use Rattle.std.specs.Prelude.{ℕ, Bool, true, false, ◌==◌, List, [], ◌∷◌, ◌++◌, take, drop, if◌then◌else◌}
use Rattle.nv_region.specs.declared.memory.Keep.{Keep}
use Rattle.nv_region.specs.declared.memory.Keep.TheVariants.{None as NoWord, All as AllWords, Alternate}

-- of the words that differ, the first, third and so on as last stored, the others as at the fence
abbrev pub alternate : Bool → List ℕ → List ℕ → List ℕ
alternate turn (l ∷ last) (f ∷ fenced) = if l == f then l ∷ alternate turn last fenced else (if turn then l ∷ alternate false last fenced else f ∷ alternate true last fenced)
alternate turn last fenced = []

-- the words with the first of them done, and what comes of the others from this turn on
abbrev pub so_far : Bool → ℕ → List ℕ → List ℕ → List ℕ
so_far turn done last fenced = take done last ++ alternate turn (drop done last) (drop done fenced)

-- the words that a stop leaves, of those last stored and those at the last fence
abbrev pub kept : Keep → List ℕ → List ℕ → List ℕ
kept NoWord last fenced = fenced
kept AllWords last fenced = last
kept Alternate last fenced = alternate true last fenced

-- Facts on bytes that a contract may not know.
use Rattle.std.specs.Prelude.{ℕ, List, Option, Some, None, ⊤}

-- where the first bytes are known, the others are too, and the fact holds of both
abbrev pub IfKnown : Option (List ℕ) → Option (List ℕ) → (List ℕ → List ℕ → Type 0) → Type 0
IfKnown None new P = ⊤
IfKnown (Some old) None P = ⊥
IfKnown (Some old) (Some new) P = P old new

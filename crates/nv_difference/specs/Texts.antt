-- Texts that are told one behind another.
use Rattle.std.specs.Prelude.{◌≡◌, ℕ, List, [], ◌∷◌, ◌++◌}

-- a text of that kind was added
abbrev pub Adds : (List ℕ → Type 0) → List ℕ → List ℕ → Type 0
Adds IsText old new = (text : List ℕ) × IsText text × (new ≡ old ++ text)

-- what is told of each, one behind another
abbrev pub AreTexts : {A : Type 0} → (A → List ℕ → Type 0) → List A → List ℕ → Type 0
AreTexts IsText [] text = text ≡ []
AreTexts IsText (x ∷ xs) text = (first : List ℕ) × (rest : List ℕ) × IsText x first × AreTexts IsText xs rest × (text ≡ first ++ rest)

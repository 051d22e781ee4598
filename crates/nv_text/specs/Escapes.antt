-- Names as a user types them: every byte stands for itself, but for the backslash, which begins an escape.
use Rattle.std.specs.Prelude.{◌≡◌, ◌≢◌, ◌⊎◌, ◌+◌, ◌*◌, ◌<◌, ⊤, ℕ, List, [], ◌∷◌, ◌++◌}
use Rattle.std.specs.Char.{digit_value}

-- two hexadecimal digits, each of either case, and the byte of this number
abbrev pub SpellsHex : List ℕ → ℕ → Type 0
SpellsHex text byte = (high : ℕ) × (low : ℕ) × (digit_value high < 16) × (digit_value low < 16)
    × (text ≡ high ∷ low ∷ []) × (byte ≡ 16 * digit_value high + digit_value low)

-- what may follow a backslash: a second one for a backslash, or `x` and two digits for the byte of their number
abbrev pub SpellsEscape : List ℕ → ℕ → Type 0
SpellsEscape text byte = ((text ≡ 92 ∷ []) × (byte ≡ 92)) ⊎ ((digits : List ℕ) × SpellsHex digits byte × (text ≡ 120 ∷ digits))

-- a byte that is no backslash as it is, or an escape
abbrev pub SpellsByte : List ℕ → ℕ → Type 0
SpellsByte text byte = ((text ≡ byte ∷ []) × (byte ≢ 92)) ⊎ ((escape : List ℕ) × SpellsEscape escape byte × (text ≡ 92 ∷ escape))

-- the text begins with the spelling of this byte, and the rest stands behind it
abbrev pub BeginsWith : (List ℕ → ℕ → Type 0) → List ℕ → ℕ → List ℕ → Type 0
BeginsWith Spells text byte rest = (front : List ℕ) × Spells front byte × (text ≡ front ++ rest)

-- the text is the spelling of each byte of a name, one behind another
abbrev pub SpellsName : List ℕ → List ℕ → Type 0
SpellsName text [] = text ≡ []
SpellsName text (byte ∷ bytes) = (rest : List ℕ) × BeginsWith SpellsByte text byte rest × SpellsName rest bytes

-- each number is a byte
abbrev pub AreBytes : List ℕ → Type 0
AreBytes [] = ⊤
AreBytes (b ∷ bs) = (b < 256) × AreBytes bs

-- Numbers of a line that are larger than what may stand in their place. The name of the command is word 1.
use Rattle.std.specs.Prelude.{ℕ, ◌+◌, Bool, ◌&&◌, nat_lt, ◌==◌, if◌then◌else◌, List, [], ◌∷◌, Option, Some, None, codes}
use Rattle.std.specs.Str.Parse.{digits_value}
use Rattle.nv_line.specs.Reading.{is_numeral}
use Rattle.nv_line.specs.declared.reasons.Form.{Form}
use Rattle.nv_line.specs.declared.reasons.Form.TheVariants as forms
use Rattle.nv_line.specs.declared.reasons.Excess.{Excess}
use Rattle.nv_super.specs.Layout.{most_size}

-- the most of 64 bits
abbrev pub most_64 : ℕ
most_64 = 18446744073709551615

-- the most that a number may be at this place of a command's words, and none where no number stands
unfoldable pub most_at : Form → ℕ → Option ℕ
most_at forms.ListNames place = None
most_at forms.Stat place = None
most_at forms.Clean place = None
most_at forms.Read place = if place == 2 then None else Some most_64
most_at forms.Link place = if nat_lt 2 place then None else Some most_64
most_at forms.Rename place = if nat_lt 2 place then None else Some most_64
most_at forms.Create place = if nat_lt 2 place then None else Some most_64
most_at forms.MakeDirectory place = if nat_lt 2 place then None else Some most_64
most_at forms.Unlink place = if nat_lt 2 place then None else Some most_64
most_at forms.RemoveDirectory place = if nat_lt 2 place then None else Some most_64
most_at forms.SetSize place = if place == 3 then None else Some most_64
most_at forms.Write place = if place == 3 then None else if place == 5 then Some most_size else if place == 6 then Some 255 else Some most_64
most_at forms.SetAttributes place = if place == 3 then None else if nat_lt 3 place then Some 4294967295 else Some most_64
most_at forms.Stop place = if place == 3 then Some most_64 else None
most_at _ place = Some most_64

-- the word writes a number in decimal that is above this
unfoldable pub exceeds : List ℕ → ℕ → Bool
exceeds word most = is_numeral word && nat_lt most (digits_value 10 word)

-- the most that may stand there, where there is one and the word is a larger number
abbrev pub most_below : Option ℕ → List ℕ → Option ℕ
most_below None word = None
most_below (Some most) word = if exceeds word most then Some most else None

-- the most that may stand at this place, where the word there writes a larger number
unfoldable pub large_at : Form → ℕ → List ℕ → Option ℕ
large_at form place word = most_below (most_at form place) word

-- the word at this place with the most that may stand there, or what is found behind it
abbrev pub first_or : ℕ → Option ℕ → Option Excess → Option Excess
first_or place None rest = rest
first_or place (Some most) rest = Some (record { word = place; most = most })

-- the first of the words from this place on that is too large a number, and the most that may stand there
abbrev pub first_large : Form → ℕ → List (List ℕ) → Option Excess
first_large form place [] = None
first_large form place (word ∷ words) = first_or place (large_at form place word) (first_large form (place + 1) words)

-- the word, or a zero where less has to stand there
abbrev pub small_for : Option ℕ → List ℕ → List ℕ
small_for None word = word
small_for (Some most) word = codes "0"

-- the words from this place on, with a zero for each that is too large a number
abbrev pub shrunk : Form → ℕ → List (List ℕ) → List (List ℕ)
shrunk form place [] = []
shrunk form place (word ∷ words) = small_for (large_at form place word) word ∷ shrunk form (place + 1) words

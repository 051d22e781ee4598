-- What the words of a line ask for, computed. The parser's private functions answer by it, and it is proved
-- to agree with the spelling; no public contract cites it.
use Rattle.std.specs.Prelude.{ℕ, ◌^◌, Bool, ◌&&◌, ◌||◌, not, List, [], ◌∷◌, length, slice_index, nat_lt, nat_le, ◌==◌, if◌then◌else◌, Option, Some, None, option_map, option_and_then, bytes_eq, codes}
use Rattle.std.specs.List.{slice_split, list_all}
use Rattle.std.specs.Char.{is_ascii_digit}
use Rattle.std.specs.Str.Parse.{digits_value}
use Rattle.nv_region.specs.declared.memory.Keep.{Keep}
use Rattle.nv_region.specs.declared.memory.Keep.TheVariants as keeps
use Rattle.nv_line.specs.Request.{Request}
use Rattle.nv_line.specs.declared.reasons.Form.{Form}
use Rattle.nv_line.specs.declared.reasons.Form.TheVariants as forms
use Rattle.nv_line.specs.Shapes.{Moment, After, At, Slot, Number, UpTo, Path, When, Keeping, Shape, End, Numbers, Then, ValueOf, Values, Makes, made_of}
use Rattle.nv_line.specs.Table.{row_of, names, form_in}

-- digits with no zero in front, or a zero alone
unfoldable pub is_numeral : List ℕ → Bool
is_numeral word = list_all is_ascii_digit word && ((length word == 1) || (nat_lt 1 (length word) && not (slice_index word 0 == 48)))

-- the number that the word writes, if it fits in 64 bits
unfoldable pub number_of : List ℕ → Option ℕ
number_of word = if is_numeral word && nat_lt (digits_value 10 word) (2 ^ 64) then Some (digits_value 10 word) else None

-- when a stop comes, by its word
unfoldable pub moment_of : List ℕ → Option Moment
moment_of word = if bytes_eq word (codes "after") then Some After else if bytes_eq word (codes "at") then Some At else None

-- what a stop keeps, by its word
unfoldable pub keep_of : List ℕ → Option Keep
keep_of word = if bytes_eq word (codes "none") then Some keeps.None
    else if bytes_eq word (codes "all") then Some keeps.All
    else if bytes_eq word (codes "alternate") then Some keeps.Alternate
    else None

-- the value that a word writes
abbrev pub value_of : (slot : Slot) → List ℕ → Option (ValueOf slot)
value_of Number word = number_of word
value_of (UpTo most) word = option_and_then (λ n. if nat_le n most then Some n else None) (number_of word)
value_of Path word = if nat_lt 0 (length word) then Some word else None
value_of When word = moment_of word
value_of Keeping word = keep_of word

-- the numbers of the words, if each writes one
unfoldable pub numbers_of : List (List ℕ) → Option (List ℕ)
numbers_of [] = Some []
numbers_of (word ∷ words) = option_and_then (λ n. option_map (λ ns. n ∷ ns) (numbers_of words)) (number_of word)

-- the values that words of a shape write
abbrev pub values_of : (shape : Shape) → List (List ℕ) → Option (Values shape)
values_of End [] = Some tt
values_of End (word ∷ words) = None
values_of Numbers words = numbers_of words
values_of (Then slot shape) [] = None
values_of (Then slot shape) (word ∷ words) = option_and_then (λ v. option_map (λ vs. (v, vs)) (values_of shape words)) (value_of slot word)

-- the request that words make, if they have the shape
unfoldable pub request_by : (shape : Shape) → Makes shape → List (List ℕ) → Option Request
request_by shape make words = option_map (made_of shape make) (values_of shape words)

-- What the words behind the name of a command make. It goes by cases, so that a proof that knows the command sees its row.
unfoldable pub request_as : Form → List (List ℕ) → Option Request
request_as forms.Format words = request_by (row_of forms.Format).shape (row_of forms.Format).make words
request_as form words = request_by (row_of form).shape (row_of form).make words

-- a request by all its words
unfoldable pub request_of_words : List (List ℕ) → Option Request
request_of_words [] = None
request_of_words (name ∷ words) = option_and_then (λ form. request_as form words) (form_in names name)

-- what the line asks for, if it is a command
unfoldable pub request_of : List ℕ → Option Request
request_of line = request_of_words (slice_split (λ b. b == 32) line)

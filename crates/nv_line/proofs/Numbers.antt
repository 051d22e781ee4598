-- A word is read as a number exactly where it is that number's decimal, below 2 ^ 64.
use Rattle.std.proofs.Common.{◌≡◌, ◌≢◌, ℕ, ◌<◌, ◌^◌, true, false, ◌&&◌, not, eqb, ltb, List, length, get_or, Option, Some, None, Ok, Err, Result, inl, inr, refl, sym, ap, ◌∙◌, arith, rules, decimal, lit<}
use Rattle.std.specs.List.{list_all}
use Rattle.std.specs.Char.{is_ascii_digit}
use Rattle.std.specs.Str.{IsUtf8}
use Rattle.std.specs.Str.Parse.{ParsesUnsigned, digits_value}
use Rattle.std.specs.Result.{OkIff, result_ok}
use Rattle.std.proofs.lemmas.Bool.{and_parts, lt-ltb, ltb-true, ne_eqb, cases_lt, cases_eq}
use Rattle.std.proofs.lemmas.Bool.Decides.{nat_tests}
use Rattle.std.proofs.lemmas.Str.Parse.{IsNumeralModel, numerals_by_value, parse_digits}
use Rattle.std.proofs.lemmas.Fmt.{IsAscii-from_digits, decimal-digits_value, decimal_is_IsNumeral, first_decimal, decimal_digit}
use Rattle.std.proofs.lemmas.Str.{IsUtf8-from_ascii}
use Rattle.std.specs.Prelude.{MatchResult, IfSome}
use Rattle.std.specs.Borrow.{Bor}
use Rattle.nv_line.specs.Shapes.{IsSmall}
use Rattle.nv_line.specs.Spelling.{Writes}
use Rattle.nv_line.specs.Reading.{is_numeral, number_of}
use Rattle.nv_line.proofs.Choice.{chosen}

pub own : IsNumeralModel (λ ds. list_all is_ascii_digit ds ≡ true) (digits_value 10)
own = numerals_by_value _ (search rules)

-- the test of a word of two bytes or more
pub numeral_long : (word : List ℕ) → list_all is_ascii_digit word ≡ true → 1 < length word → not (eqb (get_or word 0 0) 48) ≡ is_numeral word
unfolding is_numeral
numeral_long word digits long =
    let short : eqb (length word) 1 ≡ false = ne_eqb _ _ (omega arith) in
    rw (digits, short, lt-ltb 1 (length word) long) refl

pub number_of_not : (word : List ℕ) → is_numeral word ≡ false → number_of word ≡ None
unfolding number_of
number_of_not word e = rw e refl

-- the parts of the test
pub numeral_parts : (word : List ℕ) → is_numeral word ≡ true → (list_all is_ascii_digit word ≡ true) × (0 < length word) × (get_or word 0 0 ≡ 48 → length word ≡ 1)
unfolding is_numeral
numeral_parts word e = grind (arith, nat_tests)

pub numeral_is_text : (word : List ℕ) → is_numeral word ≡ true → IsUtf8 word
numeral_is_text word e = IsUtf8-from_ascii word (IsAscii-from_digits word (own.to word (numeral_parts word e).0))

too_large : (n : ℕ) → (n < 2 ^ 64 → ⊥) → ltb n (2 ^ 64) ≡ false
too_large n h = grind (arith, nat_tests)

ok_iff : {E : Type 0} (word : List ℕ) (r : Result ℕ E) → is_numeral word ≡ true → OkIff r ((0 < length word) × (digits_value 10 word < 2 ^ 64)) (digits_value 10 word) → result_ok r ≡ number_of word
unfolding number_of
ok_iff word (Ok n) e h = rw (e, lt-ltb _ _ h.0.1, h.1) refl
ok_iff word (Err f) e h = rw (e, too_large (digits_value 10 word) (λ small. h ((numeral_parts word e).1, small))) refl

pub number_parses : {E : Type 0} (word : List ℕ) (r : Result ℕ E) → is_numeral word ≡ true → ParsesUnsigned 64 10 word r → result_ok r ≡ number_of word
number_parses word r e h = ok_iff word r e (parse_digits own 64 word r h (numeral_parts word e).0)

-- what `from_utf8` says of bytes that are text
module _ {E : Type 0} (Q : E → Type 0) (word : List ℕ) where
  pub read_text : (r : Result (Bor (List ℕ)) E) (s : Bor (List ℕ)) → MatchResult r (λ t. (t.now ≡ word) × IsUtf8 word) (λ e. (IsUtf8 word → ⊥) × Q e) → Some s ≡ result_ok r → s.now ≡ word
  read_text (Ok t) s h e = let same : s ≡ t = cc in rw same h.0
  read_text (Err f) s h e = cc

  pub read_no_text : (r : Result (Bor (List ℕ)) E) → IsUtf8 word → MatchResult r (λ t. (t.now ≡ word) × IsUtf8 word) (λ e. (IsUtf8 word → ⊥) × Q e) → None ≡ result_ok r → ⊥
  read_no_text (Ok t) utf8 h e = cc
  read_no_text (Err f) utf8 h e = h.0 utf8

some_number : (word : List ℕ) (v n : ℕ) → is_numeral word ≡ true → v ≡ digits_value 10 word → v < 2 ^ 64 → v ≡ n → Writes word n
some_number word v n e same small found =
    let parts = numeral_parts word e in
    let written : decimal (digits_value 10 word) ≡ word = decimal-digits_value own word parts.0 parts.1 parts.2 (rw same at small) in
    record { spelled = sym written ∙ ap decimal (sym same ∙ found); small = rw found at small }

-- a word that is read writes its number
pub number_says : (word : List ℕ) (n : ℕ) → number_of word ≡ Some n → Writes word n
unfolding number_of
number_says word n e = elim (chosen (is_numeral word && ltb (digits_value 10 word) (2 ^ 64)) (Some (digits_value 10 word)) None (Some n) e) [
  | inl h ↦ let both = and_parts _ _ h.0 in some_number word (digits_value 10 word) n both.0 refl (ltb-true _ _ both.1) (let same : digits_value 10 word ≡ n = cc in same)
  | inr h ↦ (let bad : None ≡ Some n = h.1 in cc)
]

pub found_says : (word : List ℕ) (found : Option ℕ) → found ≡ number_of word → IfSome found (Writes word)
found_says word None e = tt
found_says word (Some n) e = number_says word n (sym e)

numeral_short : (word : List ℕ) → list_all is_ascii_digit word ≡ true → length word ≡ 1 → is_numeral word ≡ true
unfolding is_numeral
numeral_short word digits one = rw (digits, one) refl

read_value : (word : List ℕ) (n : ℕ) → is_numeral word ≡ true → digits_value 10 word ≡ n → n < 2 ^ 64 → number_of word ≡ Some n
unfolding number_of
read_value word n test value small = rw (test, value, lt-ltb n (2 ^ 64) small) refl

digits_numeral : (word : List ℕ) → list_all is_ascii_digit word ≡ true → 0 < length word → (1 < length word → get_or word 0 0 ≢ 48) → is_numeral word ≡ true
digits_numeral word digits some first = elim (cases_lt 1 (length word)) [
  | inl long ↦ sym (numeral_long word digits long) ∙ rw (ne_eqb _ _ (first long)) refl
  | inr short ↦ numeral_short word digits (omega arith)
]

first_of_long : (n : ℕ) → n < 2 ^ 64 → 1 < length (decimal n) → get_or (decimal n) 0 0 ≢ 48
first_of_long n small long = elim (cases_eq n 0) [
  | inl zero_it ↦ let one : length (decimal n) ≡ 1 = rw (zero_it, decimal_digit 0 (lit< tt)) refl in absurd (omega arith)
  | inr positive ↦ let above : 48 < get_or (decimal n) 0 0 = first_decimal n (omega arith) small in λ e. omega arith
]

-- the decimal of a number is read as the number
pub number_again : (n : ℕ) → IsSmall n → number_of (decimal n) ≡ Some n
number_again n small =
    let numeral = decimal_is_IsNumeral n small in
    let test : is_numeral (decimal n) ≡ true = digits_numeral (decimal n) (own.from (decimal n) numeral.0.1) numeral.0.0 (first_of_long n small) in
    read_value (decimal n) n test numeral.1 small

-- a word that writes a number is read as it
pub writes_again : (word : List ℕ) (n : ℕ) → Writes word n → number_of word ≡ Some n
writes_again word n writes = rw writes.spelled (number_again n writes.small)

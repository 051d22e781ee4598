-- The parts of a line between its spaces have no space, and words without a space are the parts of their line.
use Rattle.std.proofs.Common.{◌≡◌, ◌≢◌, ℕ, Bool, true, false, cond, eqb, List, [], ◌∷◌, map, refl, ap, ◌∙◌, arith, decimal, not}
use Rattle.std.specs.List.{list_all, AllByRecursion, slice_split, join_with_byte, onto_first}
use Rattle.std.specs.Prelude.{bytes_eq}
use Rattle.std.specs.Int.{IsInRange}
use Rattle.std.specs.Str.Parse.{AllDigits}
use Rattle.std.proofs.lemmas.Bool.{and_parts, ne_eqb, eqb-false}
use Rattle.std.proofs.lemmas.Fmt.{decimal_is_IsNumeral}
use Rattle.std.proofs.lemmas.List.Elements.{All-from_recursion}
use Rattle.std.proofs.lemmas.List.Splits.{slice_split_at, slice_split_none}
use Rattle.std.proofs.lemmas.Slice.Eq.{bytes_eq-Decides}
use Rattle.std.proofs.lemmas.Str.Parse.{digit_from_value}
use Rattle.nv_line.specs.Shapes.{IsSmall}

-- words that compare equal are one
pub same_bytes : (a b : List ℕ) → bytes_eq a b ≡ true → a ≡ b
same_bytes a b e = (bytes_eq-Decides a b).0 e

-- no byte of the word is a space
abbrev pub IsUnspaced : List ℕ → Type 0
IsUnspaced word = AllByRecursion (λ b. b ≢ 32) word

-- the words of a line: at least one, and none with a space
abbrev pub AreWords : List (List ℕ) → Type 0
AreWords [] = ⊥
AreWords (word ∷ words) = AllByRecursion IsUnspaced (word ∷ words)

onto_unspaced : (x : ℕ) (parts : List (List ℕ)) → x ≢ 32 → AllByRecursion IsUnspaced parts → AllByRecursion IsUnspaced (onto_first x parts)
onto_unspaced x [] other all = ((other, tt), tt)
onto_unspaced x (part ∷ parts) other all = ((other, all.0), all.1)

pub unspaced_parts : (bs : List ℕ) → AllByRecursion IsUnspaced (slice_split (λ b. eqb b 32) bs)
unspaced_parts [] = (tt, tt)
unspaced_parts (x ∷ xs) = at (eqb x 32) refl (unspaced_parts xs) where
  at : (b : Bool) → eqb x 32 ≡ b → AllByRecursion IsUnspaced (slice_split (λ b. eqb b 32) xs) → AllByRecursion IsUnspaced (cond b ([] ∷ slice_split (λ b. eqb b 32) xs) (onto_first x (slice_split (λ b. eqb b 32) xs)))
  at true e all = (tt, all)
  at false e all = onto_unspaced x _ (eqb-false x 32 e) all

no_space : (word : List ℕ) → IsUnspaced word → AllByRecursion (λ b. eqb b 32 ≡ false) word
no_space [] free = tt
no_space (b ∷ bs) free = (ne_eqb b 32 free.0, no_space bs free.1)

split-join_first : (word : List ℕ) (words : List (List ℕ)) → AllByRecursion IsUnspaced (word ∷ words) → slice_split (λ b. eqb b 32) (join_with_byte 32 (word ∷ words)) ≡ word ∷ words
split-join_first word [] free = slice_split_none _ word (All-from_recursion _ word (no_space word free.0))
split-join_first word (next ∷ words) free =
    slice_split_at _ word 32 (join_with_byte 32 (next ∷ words)) (All-from_recursion _ word (no_space word free.0)) refl
    ∙ ap (λ parts. word ∷ parts) (split-join_first next words free.1)

-- words that were joined by spaces are the parts between them
pub split-join : (words : List (List ℕ)) → AreWords words → slice_split (λ b. eqb b 32) (join_with_byte 32 words) ≡ words
split-join [] none = absurd none
split-join (word ∷ words) free = split-join_first word words free

digits_unspaced : (ds : List ℕ) → AllDigits 10 ds → IsUnspaced ds
digits_unspaced [] digits = tt
digits_unspaced (c ∷ cs) digits = ((λ e. let range : IsInRange 48 57 c = digit_from_value c digits.0 in omega arith), digits_unspaced cs digits.1)

pub decimal_unspaced : (n : ℕ) → IsSmall n → IsUnspaced (decimal n)
decimal_unspaced n small = digits_unspaced (decimal n) (decimal_is_IsNumeral n small).0.1

pub decimals_unspaced : (ns : List ℕ) → AllByRecursion IsSmall ns → AllByRecursion IsUnspaced (map decimal ns)
decimals_unspaced [] small = tt
decimals_unspaced (n ∷ ns) small = (decimal_unspaced n small.0, decimals_unspaced ns small.1)

-- of a text that is written out, the test computes
pub text_unspaced : (word : List ℕ) → list_all (λ b. not (eqb b 32)) word ≡ true → IsUnspaced word
text_unspaced [] e = tt
text_unspaced (b ∷ bs) e = let both : (not (eqb b 32) ≡ true) × (list_all (λ b. not (eqb b 32)) bs ≡ true) = and_parts _ _ e in ((λ same. let bad : not (eqb b 32) ≡ false = rw same refl in cc), text_unspaced bs both.1)

-- Words are read as values exactly where they write them.
use Rattle.std.proofs.Common.{◌≡◌, ℕ, nat_le, nat_lt, cond, List, [], ◌∷◌, length, Some, None, Option, option_map, refl, inl, inr}
use Rattle.std.specs.Prelude.{option_and_then}
use Rattle.std.specs.List.{AllByRecursion}
use Rattle.std.proofs.lemmas.Bool.{le-leb, leb-true, lt-ltb, ltb-true}
use Rattle.std.specs.Prelude.{bytes_eq, codes}
use Rattle.nv_region.specs.declared.memory.Keep.{Keep}
use Rattle.nv_region.specs.declared.memory.Keep.TheVariants as keeps
use Rattle.nv_line.specs.Shapes.{Moment, After, At, moment_word, keep_word, Slot, Number, UpTo, Path, When, Keeping, Shape, End, Numbers, Then, ValueOf, Values, word_of, CanWrite, words_of, CanBeWritten}
use Rattle.nv_line.specs.Reading.{number_of, moment_of, keep_of, value_of, values_of}
use Rattle.nv_line.proofs.Choice.{chosen}
use Rattle.nv_line.proofs.Numbers.{number_says, number_again}
use Rattle.nv_line.proofs.NumberLists.{numbers_say, numbers_again}
use Rattle.nv_line.proofs.Words.{IsUnspaced, same_bytes, text_unspaced, decimal_unspaced, decimals_unspaced}

-- the word writes the value
pub record WritesValue (slot : Slot) (word : List ℕ) (v : ValueOf slot) : Type 0 where
  pub writes : word ≡ word_of slot v
  pub can : CanWrite slot v

number_below : (most : ℕ) (word : List ℕ) (v : ℕ) (o : Option ℕ) → number_of word ≡ o → option_and_then (λ n. cond (nat_le n most) (Some n) None) o ≡ Some v → WritesValue (UpTo most) word v
number_below most word v None read e = absurd (cc)
number_below most word v (Some n) read e = elim (chosen (nat_le n most) (Some n) None (Some v) e) [
  | inl h ↦ (
      let same : n ≡ v = cc in
      let said = number_says word n read in
      rw (← same) (record { writes = said.spelled; can = (said.small, leb-true _ _ h.0) }))
  | inr h ↦ absurd (let bad : None ≡ Some v = h.1 in cc)
]

moment_says : (word : List ℕ) (v : Moment) → moment_of word ≡ Some v → word ≡ moment_word v
unfolding moment_of
moment_says word v e = elim (chosen (bytes_eq word (codes "after")) (Some After) _ (Some v) e) [
  | inl h ↦ (let same : After ≡ v = cc in rw (← same) (same_bytes word _ h.0))
  | inr h ↦ elim (chosen (bytes_eq word (codes "at")) (Some At) None (Some v) h.1) [
    | inl k ↦ (let same : At ≡ v = cc in rw (← same) (same_bytes word _ k.0))
    | inr k ↦ absurd (let bad : None ≡ Some v = k.1 in cc)
  ]
]

keep_says : (word : List ℕ) (v : Keep) → keep_of word ≡ Some v → word ≡ keep_word v
unfolding keep_of
keep_says word v e = elim (chosen (bytes_eq word (codes "none")) (Some keeps.None) _ (Some v) e) [
  | inl h ↦ (let same : keeps.None ≡ v = cc in rw (← same) (same_bytes word _ h.0))
  | inr h ↦ elim (chosen (bytes_eq word (codes "all")) (Some keeps.All) _ (Some v) h.1) [
    | inl k ↦ (let same : keeps.All ≡ v = cc in rw (← same) (same_bytes word _ k.0))
    | inr k ↦ elim (chosen (bytes_eq word (codes "alternate")) (Some keeps.Alternate) None (Some v) k.1) [
      | inl m ↦ (let same : keeps.Alternate ≡ v = cc in rw (← same) (same_bytes word _ m.0))
      | inr m ↦ absurd (let bad : None ≡ Some v = m.1 in cc)
    ]
  ]
]

moment_again : (v : Moment) → moment_of (moment_word v) ≡ Some v
unfolding moment_of
moment_again After = refl
moment_again At = refl

keep_again : (v : Keep) → keep_of (keep_word v) ≡ Some v
unfolding keep_of
keep_again keeps.None = refl
keep_again keeps.All = refl
keep_again keeps.Alternate = refl

moment_unspaced : (v : Moment) → IsUnspaced (moment_word v)
moment_unspaced After = text_unspaced (codes "after") refl
moment_unspaced At = text_unspaced (codes "at") refl

keep_unspaced : (v : Keep) → IsUnspaced (keep_word v)
keep_unspaced keeps.None = text_unspaced (codes "none") refl
keep_unspaced keeps.All = text_unspaced (codes "all") refl
keep_unspaced keeps.Alternate = text_unspaced (codes "alternate") refl

-- a word that is read writes its value
pub value_says : (slot : Slot) (word : List ℕ) (v : ValueOf slot) → IsUnspaced word → value_of slot word ≡ Some v → WritesValue slot word v
value_says Number word v free e = let said = number_says word v e in record { writes = said.spelled; can = said.small }
value_says (UpTo most) word v free e = number_below most word v (number_of word) refl e
value_says Path word v free e = elim (chosen (nat_lt 0 (length word)) (Some word) None (Some v) e) [
  | inl h ↦ (let same : word ≡ v = cc in rw (← same) (record { writes = refl; can = (ltb-true _ _ h.0, free) }))
  | inr h ↦ absurd (let bad : None ≡ Some v = h.1 in cc)
]
value_says When word v free e = record { writes = moment_says word v e; can = tt }
value_says Keeping word v free e = record { writes = keep_says word v e; can = tt }

-- the word of a value is read as it
pub value_again : (slot : Slot) (v : ValueOf slot) → CanWrite slot v → value_of slot (word_of slot v) ≡ Some v
value_again Number n can = number_again n can
value_again (UpTo most) n can = rw (number_again n can.0, le-leb n most can.1) refl
value_again Path bytes can = rw (lt-ltb 0 (length bytes) can.0) refl
value_again When moment can = moment_again moment
value_again Keeping keep can = keep_again keep

-- no word of a value has a space
pub value_unspaced : (slot : Slot) (v : ValueOf slot) → CanWrite slot v → IsUnspaced (word_of slot v)
value_unspaced Number n can = decimal_unspaced n can
value_unspaced (UpTo most) n can = decimal_unspaced n can.0
value_unspaced Path bytes can = can.1
value_unspaced When moment can = moment_unspaced moment
value_unspaced Keeping keep can = keep_unspaced keep

-- the words write the values
pub record WriteValues (shape : Shape) (words : List (List ℕ)) (vs : Values shape) : Type 0 where
  pub write : words ≡ words_of shape vs
  pub can : CanBeWritten shape vs

pub values_say : (shape : Shape) (words : List (List ℕ)) (vs : Values shape) → AllByRecursion IsUnspaced words → values_of shape words ≡ Some vs → WriteValues shape words vs
values_say End [] vs free e = record { write = refl; can = tt }
values_say End (word ∷ words) vs free e = absurd (cc)
values_say Numbers words vs free e = let said = numbers_say words vs e in record { write = said.0; can = said.1 }
values_say (Then slot shape) [] vs free e = absurd (cc)
values_say (Then slot shape) (word ∷ words) all free e = first (values_say shape words) (value_of slot word) refl e where
  rest : ((vs : Values shape) → AllByRecursion IsUnspaced words → values_of shape words ≡ Some vs → WriteValues shape words vs) → (v : ValueOf slot) (o : Option (Values shape)) → value_of slot word ≡ Some v → values_of shape words ≡ o
      → option_map (λ vs. (v, vs)) o ≡ Some all → WriteValues (Then slot shape) (word ∷ words) all
  rest say v None read none found = absurd (cc)
  rest say v (Some vs) read others found =
      let said = value_says slot word v free.0 read in
      let more = say vs free.1 others in
      let same : (v, vs) ≡ all = cc in
      rw (← same) (record { write = rw (said.writes, more.write) refl; can = (said.can, more.can) })

  first : ((vs : Values shape) → AllByRecursion IsUnspaced words → values_of shape words ≡ Some vs → WriteValues shape words vs) → (o : Option (ValueOf slot)) → value_of slot word ≡ o
      → option_and_then (λ v. option_map (λ vs. (v, vs)) (values_of shape words)) o ≡ Some all → WriteValues (Then slot shape) (word ∷ words) all
  first say None none found = absurd (cc)
  first say (Some v) read found = rest say v (values_of shape words) read refl found

pub values_again : (shape : Shape) (vs : Values shape) → CanBeWritten shape vs → values_of shape (words_of shape vs) ≡ Some vs
values_again End vs can = refl
values_again Numbers ns can = numbers_again ns can
values_again (Then slot shape) vs can = rw (value_again slot vs.0 can.0, values_again shape vs.1 can.1) refl

pub values_unspaced : (shape : Shape) (vs : Values shape) → CanBeWritten shape vs → AllByRecursion IsUnspaced (words_of shape vs)
values_unspaced End vs can = tt
values_unspaced Numbers ns can = decimals_unspaced ns can
values_unspaced (Then slot shape) vs can = (value_unspaced slot vs.0 can.0, values_unspaced shape vs.1 can.1)

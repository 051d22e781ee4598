-- Words are read as a list of numbers exactly where they are those numbers' decimals; and the reading word by word.
use Rattle.std.proofs.Common.{◌≡◌, ℕ, ◌<◌, ◌≤◌, ◌+◌, List, [], ◌∷◌, ◌++◌, map, length, get_or, drop, Some, None, Option, option_map, refl, sym, ap, ◌∙◌, decimal, append_assoc, append-nil, add-one, drop-cons}
use Rattle.std.specs.Prelude.{option_and_then}
use Rattle.std.specs.List.{AllByRecursion}
use Rattle.std.specs.Borrow.{Bor}
use Rattle.std.proofs.lemmas.List.{drop_all}
use Rattle.nv_line.specs.Shapes.{IsSmall}
use Rattle.nv_line.specs.Reading.{number_of, numbers_of}
use Rattle.nv_line.proofs.Numbers.{number_says, number_again}

-- the words are these numbers in decimal, and a script can write each
abbrev pub Write : List (List ℕ) → List ℕ → Type 0
Write words ns = (words ≡ map decimal ns) × AllByRecursion IsSmall ns

pub numbers_say : (words : List (List ℕ)) (ns : List ℕ) → numbers_of words ≡ Some ns → Write words ns
unfolding numbers_of
numbers_say [] [] e = (refl, tt)
numbers_say [] (n ∷ ns) e = cc
numbers_say (word ∷ words) all e = first (numbers_say words) (number_of word) refl e where
  rest : ((ns : List ℕ) → numbers_of words ≡ Some ns → Write words ns) → (n : ℕ) (o : Option (List ℕ)) → number_of word ≡ Some n → numbers_of words ≡ o → option_map (λ ns. n ∷ ns) o ≡ Some all → Write (word ∷ words) all
  rest say n None read none found = cc
  rest say n (Some ns) read others found =
      let said = number_says word n read in
      let more = say ns others in
      let same : (n ∷ ns) ≡ all = cc in
      rw (← same) (rw (said.spelled, more.0) refl, (said.small, more.1))

  first : ((ns : List ℕ) → numbers_of words ≡ Some ns → Write words ns) → (o : Option ℕ) → number_of word ≡ o → option_and_then (λ n. option_map (λ ns. n ∷ ns) (numbers_of words)) o ≡ Some all → Write (word ∷ words) all
  first say None none found = cc
  first say (Some n) read found = rest say n (numbers_of words) read refl found

pub numbers_again : (ns : List ℕ) → AllByRecursion IsSmall ns → numbers_of (map decimal ns) ≡ Some ns
unfolding numbers_of
numbers_again [] small = refl
numbers_again (n ∷ ns) small = rw (number_again n small.0, numbers_again ns small.1) refl

abbrev texts : List (Bor (List ℕ)) → List (List ℕ)
texts words = map (λ word. word.now) words

-- one number more in front, and one less behind
one_further : (front : List ℕ) (n : ℕ) (read : Option (List ℕ)) → option_map (λ ns. front ++ ns) (option_map (λ ns. n ∷ ns) read) ≡ option_map (λ ns. (front ++ n ∷ []) ++ ns) read
one_further front n None = refl
one_further front n (Some ns) = ap Some (sym (append_assoc front (n ∷ []) ns))

-- at a word, with the numbers of the words before it
module _ (front : List ℕ) (words : List (Bor (List ℕ))) (i : ℕ) (d : Bor (List ℕ)) (all : Option (List ℕ)) (here : i < length words) (so_far : option_map (λ ns. front ++ ns) (numbers_of (texts (drop i words))) ≡ all) where
  read_here : numbers_of (texts (drop i words)) ≡ option_and_then (λ n. option_map (λ ns. n ∷ ns) (numbers_of (texts (drop (i + 1) words)))) (number_of (get_or words i d).now)
  unfolding numbers_of
  read_here = rw (add-one, drop-cons words i d here) refl

  pub goes_on : (n : ℕ) → Some n ≡ number_of (get_or words i d).now → option_map (λ ns. (front ++ n ∷ []) ++ ns) (numbers_of (texts (drop (i + 1) words))) ≡ all
  goes_on n e = sym (one_further front n _) ∙ (let step : numbers_of (texts (drop i words)) ≡ option_map (λ ns. n ∷ ns) (numbers_of (texts (drop (i + 1) words))) = read_here ∙ rw (← e) refl in rw (← step) so_far)

  pub stops : None ≡ number_of (get_or words i d).now → None ≡ all
  stops e = let step : numbers_of (texts (drop i words)) ≡ None = read_here ∙ rw (← e) refl in rw step at so_far

-- behind the last word
pub ends : (front : List ℕ) (words : List (Bor (List ℕ))) (i : ℕ) (all : Option (List ℕ)) → length words ≤ i → option_map (λ ns. front ++ ns) (numbers_of (texts (drop i words))) ≡ all → Some front ≡ all
unfolding numbers_of
ends front words i all past so_far = let done : drop i words ≡ [] = drop_all i words past in let said : Some (front ++ []) ≡ all = rw done at so_far in rw append-nil at said

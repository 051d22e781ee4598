-- The texts of some words and of one more.
use Rattle.std.proofs.Common.{◌≡◌, ◌∙◌, ◌↔◌, ℕ, Bool, IsTrue, List, [], ◌∷◌, ◌++◌, map, ap, sym, refl, Some}
use Rattle.std.specs.List.{All}
use Rattle.std.specs.Str.{IsUtf8}
use Rattle.std.specs.Str.Lossy.{utf8_lossy}
use Rattle.std.proofs.lemmas.List.{map-append}
use Rattle.std.proofs.lemmas.List.Elements.{All-push, All-pop}

one_text : (all : List (List ℕ)) (word : List ℕ) (old new : List (List ℕ)) → old ≡ map utf8_lossy all → new ≡ old ++ (utf8_lossy word ∷ []) → new ≡ map utf8_lossy (all ++ word ∷ [])
one_text all word old new before step = step ∙ ap (λ texts. texts ++ (utf8_lossy word ∷ [])) before ∙ sym (map-append utf8_lossy all (word ∷ []))

one_test : (all : List (List ℕ)) (word : List ℕ) (old new : Bool) → (IsTrue old ↔ All IsUtf8 all) → (IsTrue new ↔ (IsTrue old × IsUtf8 word)) → (IsTrue new ↔ All IsUtf8 (all ++ word ∷ []))
one_test all word old new before step =
    let there : IsTrue new → All IsUtf8 (all ++ word ∷ []) = λ yes. All-push IsUtf8 all word (before.0 (step.0 yes).0) (step.0 yes).1 in
    let back : All IsUtf8 (all ++ word ∷ []) → IsTrue new = λ each. let both = All-pop IsUtf8 (all ++ word ∷ []) all (Some word) refl each in step.1 (before.1 both.0, both.1) in
    (there, back)

-- with one word more they still stand for some words
pub one_word : (all : List (List ℕ)) (word : List ℕ) (old new : List (List ℕ)) (was are : Bool) → old ≡ map utf8_lossy all → (IsTrue was ↔ All IsUtf8 all) → new ≡ old ++ (utf8_lossy word ∷ []) → (IsTrue are ↔ (IsTrue was × IsUtf8 word)) → (more : List (List ℕ)) × (new ≡ map utf8_lossy more) × (IsTrue are ↔ All IsUtf8 more)
one_word all word old new was are texts utf8 text test = (all ++ word ∷ [], one_text all word old new texts text, one_test all word was are utf8 test)

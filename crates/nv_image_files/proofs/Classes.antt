-- A name that is looked for in a table, of which the names are known.
use Rattle.std.proofs.Common.{◌≡◌, ◌∙◌, ℕ, ◌+◌, ◌<◌, Bool, true, false, cond, IsTrue, ◌↔◌, List, ◌∷◌, Option, Some, map, find, drop, get_or, length, ap, sym, add-one, drop-cons}
use Rattle.std.specs.List.{drop-map}
use Rattle.std.specs.Char.{to_ascii_lowercase}
use Rattle.std.specs.Str.{str_eq_ignore_ascii_case}
use Rattle.std.proofs.lemmas.Bool.Decides.{same_from_decides}
use Rattle.std.proofs.lemmas.Slice.Eq.{bytes_eq-Decides}

-- the names of what a table holds
pub record AreNames {X : Type 0} (name : X → List ℕ) (xs : List X) (names : List (List ℕ)) : Type 0 where
  pub same : map name xs ≡ names

module _ {X : Type 0} (name : X → List ℕ) (p : List ℕ → Bool) (i : ℕ) {xs : List X} {names : List (List ℕ)} (table : AreNames name xs names) (here : i < length xs) (d : X) (all : Option (List ℕ)) where
  rest_of : drop i names ≡ name (get_or xs i d) ∷ drop (i + 1) names
  rest_of =
      let next : drop i xs ≡ get_or xs i d ∷ drop (i + 1) xs = rw add-one (drop-cons xs i d here) in
      ap (drop i) (sym table.same) ∙ drop-map name i xs ∙ ap (map name) next
      ∙ ap (λ rest. name (get_or xs i d) ∷ rest) (sym (drop-map name (i + 1) xs) ∙ ap (drop (i + 1)) table.same)

  first : find p (drop i names) ≡ all → cond (p (name (get_or xs i d))) (Some (name (get_or xs i d))) (find p (drop (i + 1) names)) ≡ all
  first before = sym (ap (find p) rest_of) ∙ before

  -- it isn't this one
  pub next_name : find p (drop i names) ≡ all → p (name (get_or xs i d)) ≡ false → find p (drop (i + 1) names) ≡ all
  next_name before other = sym (ap (λ b. cond b (Some (name (get_or xs i d))) (find p (drop (i + 1) names))) other) ∙ first before

  -- it is this one
  pub this_name : find p (drop i names) ≡ all → p (name (get_or xs i d)) ≡ true → Some (name (get_or xs i d)) ≡ all
  this_name before this = sym (ap (λ b. cond b (Some (name (get_or xs i d))) (find p (drop (i + 1) names))) this) ∙ first before

-- a test whether two texts are the same in lower case gives what the definition says
pub tested : (r : Bool) (a b : List ℕ) → (IsTrue r ↔ (map to_ascii_lowercase a ≡ map to_ascii_lowercase b)) → str_eq_ignore_ascii_case a b ≡ r
tested r a b says = same_from_decides (str_eq_ignore_ascii_case a b) r (bytes_eq-Decides (map to_ascii_lowercase a) (map to_ascii_lowercase b)) says

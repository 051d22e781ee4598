-- The look for a command by its name, and for the nearest one, as it goes through a table of which the names and forms are known.
use Rattle.std.proofs.Common.{◌≡◌, ◌⊎◌, inl, inr, ◌∙◌, ℕ, ◌+◌, ◌<◌, ◌≤◌, nat_lt, true, false, List, ◌∷◌, Option, Some, map, drop, get_or, length, ap, sym, add-one, drop-cons, arith, refl}
use Rattle.std.proofs.lemmas.Bool.{lt-ltb}
use Rattle.std.proofs.lemmas.Bool.Decides.{nat_tests}
use Rattle.std.specs.List.{drop-map}
use Rattle.std.specs.Prelude.{bytes_eq}
use Rattle.nv_line.specs.declared.reasons.Form.{Form}
use Rattle.nv_line.specs.Table.{form_in}
use Rattle.nv_line.specs.Nearest.{Near, edits, look, look_through}

-- the names and forms of what a table holds
pub record AreNamed {X : Type 0} (show : X → List ℕ × Form) (xs : List X) (commands : List (List ℕ × Form)) : Type 0 where
  pub same : map show xs ≡ commands

module _ {X : Type 0} (show : X → List ℕ × Form) (i : ℕ) {xs : List X} {commands : List (List ℕ × Form)} (table : AreNamed show xs commands) (here : i < length xs) (d : X) where
  rest_of : drop i commands ≡ show (get_or xs i d) ∷ drop (i + 1) commands
  rest_of =
      let next : drop i xs ≡ get_or xs i d ∷ drop (i + 1) xs = rw add-one (drop-cons xs i d here) in
      ap (drop i) (sym table.same) ∙ drop-map show i xs ∙ ap (map show) next
      ∙ ap (λ rest. show (get_or xs i d) ∷ rest) (sym (drop-map show (i + 1) xs) ∙ ap (drop (i + 1)) table.same)

  -- the command here has the name
  pub found_here : (name : List ℕ) (all : Option Form) → form_in (drop i commands) name ≡ all → bytes_eq name (show (get_or xs i d)).0 ≡ true → Some (show (get_or xs i d)).1 ≡ all
  unfolding form_in
  found_here name all before test =
      let here : form_in (drop i commands) name ≡ Some (show (get_or xs i d)).1 = ap (λ (cs : List (List ℕ × Form)). form_in cs name) rest_of ∙ rw test refl in
      sym here ∙ before

  -- or another name
  pub not_here : (name : List ℕ) (all : Option Form) → form_in (drop i commands) name ≡ all → bytes_eq name (show (get_or xs i d)).0 ≡ false → form_in (drop (i + 1) commands) name ≡ all
  unfolding form_in
  not_here name all before test =
      let later : form_in (drop i commands) name ≡ form_in (drop (i + 1) commands) name = ap (λ (cs : List (List ℕ × Form)). form_in cs name) rest_of ∙ rw test refl in
      sym later ∙ before

  -- one more was looked at
  pub looked_on : (word : List ℕ) (near next all : Near) → look_through word near (drop i commands) ≡ all → next ≡ look word near (show (get_or xs i d))
      → look_through word next (drop (i + 1) commands) ≡ all
  unfolding look_through
  looked_on word near next all before is = ap (λ (n : Near). look_through word n (drop (i + 1) commands)) is ∙ sym (ap (look_through word near) rest_of) ∙ before

-- what a look at one command leaves
pub looked : (word : List ℕ) (near : Near) (command : List ℕ × Form) (e b : ℕ) (f : Option Form) → e ≡ edits word command.0
    → ((e < near.below) × (f ≡ Some command.1) × (b ≡ e)) ⊎ ((near.below ≤ e) × (f ≡ near.form) × (b ≡ near.below))
    → (record { form = f; below = b }) ≡ look word near command
looked word near command e b f is (inl (nearer, form, below)) =
    let test : nat_lt (edits word command.0) near.below ≡ true = rw (sym is) (lt-ltb e near.below nearer) in
    rw test (rw form (rw below (rw is refl)))
looked word near command e b f is (inr (farther, form, below)) =
    let test : nat_lt (edits word command.0) near.below ≡ false = rw (sym is) (grind (arith, nat_tests)) in
    rw test (rw form (rw below refl))

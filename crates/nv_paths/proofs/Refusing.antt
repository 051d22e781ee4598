-- Tests behind others, and that no walk answers `Stopped`.
use Rattle.std.proofs.Common.{◌≡◌, ℕ, Bool, true, false, cond, List, [], ◌∷◌, ◌++◌, refl, Option, Some, None, Ok, Err}
use Rattle.nv_tree.specs.declared.refusal.Refusal.{Refusal}
use Rattle.nv_tree.specs.declared.refusal.Refusal.TheVariants.{NotDirectory, Stopped}
use Rattle.nv_tree.specs.Tree.{Node, Tree, and_then, as_directory, is_directory, name_in, or_not_found, walk}
use Rattle.nv_tree.specs.Refusals.{Tests, first_refusal}

pub refused_before : (a b : Tests) (e : Refusal) → first_refusal a ≡ Some e → first_refusal (a ++ b) ≡ Some e
refused_before [] b e h = absurd (cc)
refused_before (x ∷ a) b e h = by x.0 (refused_before a b e) h where
  by : (t : Bool) → (first_refusal a ≡ Some e → first_refusal (a ++ b) ≡ Some e) → cond t (Some x.1) (first_refusal a) ≡ Some e → cond t (Some x.1) (first_refusal (a ++ b)) ≡ Some e
  by true rest h = h
  by false rest h = rest h

pub passed_before : (a b : Tests) → first_refusal a ≡ None → first_refusal (a ++ b) ≡ first_refusal b
passed_before [] b h = refl
passed_before (x ∷ a) b h = by x.0 (passed_before a b) h where
  by : (t : Bool) → (first_refusal a ≡ None → first_refusal (a ++ b) ≡ first_refusal b) → cond t (Some x.1) (first_refusal a) ≡ None → cond t (Some x.1) (first_refusal (a ++ b)) ≡ first_refusal b
  by true rest h = absurd (cc)
  by false rest h = rest h

pub walk_goes_on : (t : Tree) (d : ℕ) (names : List (List ℕ)) → walk t d names ≡ Err Stopped → ⊥
walk_goes_on t d [] e = absurd (cc)
walk_goes_on t d (name ∷ []) e = here (t d) e where
  here : (o : Option Node) → as_directory d o ≡ Err Stopped → ⊥
  here None e = absurd (cc)
  here (Some node) e = by (is_directory node.kind) e where
    by : (b : Bool) → cond b (Ok d) (Err NotDirectory) ≡ Err Stopped → ⊥
    by true e = absurd (cc)
    by false e = absurd (cc)
walk_goes_on t d (name ∷ next ∷ names) e = here (t d) (λ i. walk_goes_on t i (next ∷ names)) e where
  named : (o : Option ℕ) → ((i : ℕ) → walk t i (next ∷ names) ≡ Err Stopped → ⊥) → and_then (or_not_found o) (λ i. walk t i (next ∷ names)) ≡ Err Stopped → ⊥
  named None on e = absurd (cc)
  named (Some i) on e = on i e

  here : (o : Option Node) → ((i : ℕ) → walk t i (next ∷ names) ≡ Err Stopped → ⊥) → and_then (as_directory d o) (λ j. and_then (or_not_found (name_in t j name)) (λ i. walk t i (next ∷ names))) ≡ Err Stopped → ⊥
  here None on e = absurd (cc)
  here (Some node) on e = by (is_directory node.kind) e where
    by : (b : Bool) → and_then (cond b (Ok d) (Err NotDirectory)) (λ j. and_then (or_not_found (name_in t j name)) (λ i. walk t i (next ∷ names))) ≡ Err Stopped → ⊥
    by true e = named (name_in t d name) on e
    by false e = absurd (cc)

-- The way to a name, in a tree and in a graph with the same names.
use Rattle.std.proofs.Common.{◌≡◌, ℕ, true, List, [], ◌∷◌, refl, ap, sym, ◌∙◌, Option, Some, None, Result, Ok, Err}
use Rattle.std.specs.Option.{option_and_then, option_map_or}
use Rattle.nv_graph.specs.Graph.{Graph}
use Rattle.nv_graph.specs.Graph as graph
use Rattle.nv_tree.specs.declared.refusal.Refusal.{Refusal}
use Rattle.nv_tree.specs.Tree.{Node, Tree, and_then, as_directory, is_directory, name_in, or_not_found, passed, walk}
use Rattle.nv_tree.proofs.Leads.{ended, went_on}

-- where a walk ends there is a directory in use
pub walk_directory : (t : Tree) (e : ℕ) (name : List ℕ) (names : List (List ℕ)) (k : ℕ) → walk t e (name ∷ names) ≡ Ok k → (a : Node) × (t k ≡ Some a) × (is_directory a.kind ≡ true)
walk_directory t e name [] k h = let r = ended e k (t e) h in (r.0, ap t (sym r.3) ∙ r.1, r.2)
walk_directory t e name (next ∷ names) k h =
    let s = went_on (as_directory e (t e)) (λ c. and_then (or_not_found (name_in t c name)) (λ i. walk t i (next ∷ names))) k h in
    let r = went_on (or_not_found (name_in t s.0 name)) (λ i. walk t i (next ∷ names)) k s.2 in
    walk_directory t r.0 next names k r.2

-- all names but the last
abbrev pub way_to : List (List ℕ) → List (List ℕ)
way_to [] = []
way_to (name ∷ []) = []
way_to (name ∷ next ∷ names) = name ∷ way_to (next ∷ names)

same_number : (d e : ℕ) (o : Option Node) → as_directory d o ≡ Ok e → d ≡ e
same_number d e o h = (ended d e o h).3

module _ (g : Graph) (t : Tree) (agree : (d : ℕ) (q : List ℕ) → g.name d q ≡ name_in t d q) where
  -- Where the walk ends, the graph's path does.
  pub walked_there : (d e : ℕ) (name : List ℕ) (names : List (List ℕ)) → walk t d (name ∷ names) ≡ Ok e → graph.walked g d (way_to (name ∷ names)) ≡ Some e
  walked_there d e name [] h = ap (λ (i : ℕ). Some i) (same_number d e (t d) h)
  walked_there d e name (next ∷ names) h = step (as_directory d (t d)) refl (λ i. walked_there i e next names) h where
    on : (o : Option ℕ) → name_in t d name ≡ o → ((i : ℕ) → walk t i (next ∷ names) ≡ Ok e → graph.walked g i (way_to (next ∷ names)) ≡ Some e) → and_then (or_not_found o) (λ i. walk t i (next ∷ names)) ≡ Ok e
        → option_and_then (λ j. graph.walked g j (way_to (next ∷ names))) (g.name d name) ≡ Some e
    on None there rest h = absurd (cc)
    on (Some i) there rest h = ap (λ (o : Option ℕ). option_and_then (λ j. graph.walked g j (way_to (next ∷ names))) o) (agree d name ∙ there) ∙ rest i h

    step : (r : Result ℕ Refusal) → as_directory d (t d) ≡ r → ((i : ℕ) → walk t i (next ∷ names) ≡ Ok e → graph.walked g i (way_to (next ∷ names)) ≡ Some e) → and_then r (λ k. and_then (or_not_found (name_in t k name)) (λ i. walk t i (next ∷ names))) ≡ Ok e
        → option_and_then (λ j. graph.walked g j (way_to (next ∷ names))) (g.name d name) ≡ Some e
    step (Err x) is rest h = absurd (cc)
    step (Ok k) is rest h = on (name_in t k name) (ap (λ (n : ℕ). name_in t n name) (same_number d k (t d) is)) rest h

  -- And both pass the same numbers.
  pub passed_there : (d : ℕ) (name : List ℕ) (names : List (List ℕ)) → graph.passed g d (way_to (name ∷ names)) ≡ passed t d (name ∷ names)
  passed_there d name [] = refl
  passed_there d name (next ∷ names) = ap (λ (xs : List ℕ). d ∷ xs) (ap (λ (o : Option ℕ). option_map_or (λ j. graph.passed g j (way_to (next ∷ names))) o []) (agree d name) ∙ by (name_in t d name) (λ i. passed_there i next names)) where
    by : (o : Option ℕ) → ((i : ℕ) → graph.passed g i (way_to (next ∷ names)) ≡ passed t i (next ∷ names)) → option_map_or (λ j. graph.passed g j (way_to (next ∷ names))) o [] ≡ option_map_or (λ i. passed t i (next ∷ names)) o []
    by None rest = refl
    by (Some i) rest = rest i

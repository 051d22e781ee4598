-- What is reached, where names change.
use Rattle.std.proofs.Common.{◌≡◌, ◌≢◌, ℕ, inl, inr, Option, Some, None, List, [], ◌∷◌, refl, sym, subst}
use Rattle.std.specs.List.{Contains}
use Rattle.std.specs.Option.{option_and_then, option_map_or}
use Rattle.nv_super.proofs.Rising.{Contains-head, Contains-tail}
use Rattle.nv_graph.specs.Graph.{Graph, IsReached, IsReachedPast, walked, passed}
use Rattle.nv_graph.specs.Graph as graph
use Rattle.std.proofs.lemmas.Bool.{cases_eq}

-- all names but those of i stand in h too
abbrev pub KeepsOthers : Graph → Graph → ℕ → Type 0
KeepsOthers g h i = (d : ℕ) (name : List ℕ) (j : ℕ) → g.name d name ≡ Some j → j ≢ i → h.name d name ≡ Some j

module _ {g h : Graph} {i : ℕ} (keeps : KeepsOthers g h i) where
  -- what is reached past i is reached there
  pub past_there : {j : ℕ} → IsReachedPast g i j → IsReached h j
  past_there (graph.IsReachedPast.root ne) = graph.IsReached.root
  past_there (graph.IsReachedPast.step {d = d} {j = j} name before e ne) = graph.IsReached.step name (past_there before) (keeps d name j e ne)

  -- what is reached is reached there, where i is
  pub reached_there : IsReached h i → {j : ℕ} → IsReached g j → IsReached h j
  reached_there at graph.IsReached.root = graph.IsReached.root
  reached_there at (graph.IsReached.step {d = d} {i = j} name before e) = elim (cases_eq j i) [
    | inl w ↦ subst (IsReached h) (sym w) at
    | inr w ↦ graph.IsReached.step name (reached_there at before) (keeps d name j e w)
  ]

-- a way passes what names nothing at its end alone
pub past_leaf : {g : Graph} (i : ℕ) → i ≢ 1 → ((name : List ℕ) (j : ℕ) → g.name i name ≡ Some j → ⊥) → {j : ℕ} → IsReached g j → j ≢ i → IsReachedPast g i j
past_leaf i root leaf graph.IsReached.root ne = graph.IsReachedPast.root root
past_leaf {g} i root leaf (graph.IsReached.step {d = d} {i = j} name before e) ne =
    graph.IsReachedPast.step name (past_leaf i root leaf before (λ w. leaf name j (subst (λ (k : ℕ). g.name k name ≡ Some j) w e))) e ne

-- the end of a way past i isn't i
pub past_other : {g : Graph} {i j : ℕ} → IsReachedPast g i j → j ≢ i
past_other (graph.IsReachedPast.root ne) = λ e. ne (sym e)
past_other (graph.IsReachedPast.step name before e ne) = ne

-- a path that doesn't pass i
pub path_past : (g : Graph) (i : ℕ) (path : List (List ℕ)) (d e : ℕ) → IsReachedPast g i d → walked g d path ≡ Some e → (Contains (passed g d path) i → ⊥) → IsReachedPast g i e
path_past g i [] d e at is out = let same : d ≡ e = cc in subst (IsReachedPast g i) same at
path_past g i (name ∷ path) d e at is out = on (path_past g i path) (g.name d name) refl is out where
  starts : (j : ℕ) (path : List (List ℕ)) → Contains (passed g j path) j
  starts j [] = Contains-head j []
  starts j (name ∷ path) = Contains-head j _

  on : ((j e : ℕ) → IsReachedPast g i j → walked g j path ≡ Some e → (Contains (passed g j path) i → ⊥) → IsReachedPast g i e)
      → (o : Option ℕ) → g.name d name ≡ o → option_and_then (λ j. walked g j path) o ≡ Some e → (Contains (d ∷ option_map_or (λ j. passed g j path) o []) i → ⊥) → IsReachedPast g i e
  on more None q is out = absurd (cc)
  on more (Some j) q is out = more j e
      (graph.IsReachedPast.step name at q (λ w. out (Contains-tail d (passed g j path) i (subst (λ (k : ℕ). Contains (passed g j path) k) w (starts j path)))))
      is
      (λ c. out (Contains-tail d (passed g j path) i c))

-- Nodes and names of a graph where one of them changes, and how many names a number has then.
use Rattle.std.proofs.Common.{◌≡◌, ◌≢◌, ℕ, zero, suc, ◌⊎◌, inl, inr, true, nat_eq, Option, Some, List, [], ◌∷◌, length, refl, ap, sym, ◌∙◌, subst, arith}
use Rattle.std.specs.Cmp.Lexicographic.{pointwise, bytes_decides}
use Rattle.std.proofs.lemmas.Bool.{and_parts, and_from, cond-true, cond-false, eqb-true, eq-eqb, ne_eqb, both_ways, cases_Bool}
use Rattle.nv_super.proofs.Rising.{Contains-head, Lists-only, Lists-same}
use Rattle.nv_super.proofs.Members.{none_in}
use Rattle.nv_super.proofs.OneMore.{pair_only, lists_more, lists_less}
use Rattle.nv_graph.specs.Graph.{Node, Graph, pair_key, AreNames, HasNames}
use Rattle.nv_graph.specs.Calls.{with_node, with_name, is_name}

-- ---- nodes

pub node_here : (g : Graph) (i : ℕ) (o : Option Node) → (with_node g i o).node i ≡ o
node_here g i o = cond-true (nat_eq i i) o (g.node i) (eq-eqb i i refl)

pub node_other : (g : Graph) (i : ℕ) (o : Option Node) (j : ℕ) → j ≢ i → (with_node g i o).node j ≡ g.node j
node_other g i o j ne = cond-false (nat_eq j i) o (g.node j) (ne_eqb j i ne)

-- ---- names

is_that : (d : ℕ) (name : List ℕ) (x : ℕ × List ℕ) → is_name d name x.0 x.1 ≡ true → x ≡ (d, name)
is_that d name x e =
    let w = and_parts (nat_eq x.0 d) (pointwise nat_eq x.1 name) e in
    let first : x.0 ≡ d = eqb-true x.0 d w.0 in
    let rest : x.1 ≡ name = (bytes_decides x.1 name).0 w.1 in
    λ k. (first k, rest k)

that_is : (d : ℕ) (name : List ℕ) → is_name d name d name ≡ true
that_is d name = and_from (nat_eq d d) (pointwise nat_eq name name) (eq-eqb d d refl) ((bytes_decides name name).1 refl)

-- a directory's name is this one or another
pub that_or : (d : ℕ) (name : List ℕ) (x : ℕ × List ℕ) → (x ≡ (d, name)) ⊎ (x ≢ (d, name))
that_or d name x = elim (cases_Bool (is_name d name x.0 x.1)) [
  | inl e ↦ inl (is_that d name x e)
  | inr e ↦ inr (λ h. both_ways (is_name d name x.0 x.1) e (ap (λ (y : ℕ × List ℕ). is_name d name y.0 y.1) h ∙ that_is d name))
]

-- h has this at a name of d, and else the names of g
pub record Renames (g h : Graph) (d : ℕ) (name : List ℕ) (o : Option ℕ) : Type 0 where
  pub here : h.name d name ≡ o
  pub other : (x : ℕ × List ℕ) → x ≢ (d, name) → h.name x.0 x.1 ≡ g.name x.0 x.1

pub renames : (g : Graph) (d : ℕ) (name : List ℕ) (o : Option ℕ) → Renames g (with_name g d name o) d name o
renames g d name o = record {
  here = cond-true (is_name d name d name) o (g.name d name) (that_is d name);
  other = λ x ne. elim (cases_Bool (is_name d name x.0 x.1)) [
    | inl e ↦ absurd (ne (is_that d name x e))
    | inr e ↦ cond-false (is_name d name x.0 x.1) o (g.name x.0 x.1) e
  ];
}

-- beside a change of node i
pub renames_beside : (g : Graph) (i : ℕ) (p : Option Node) (d : ℕ) (name : List ℕ) (o : Option ℕ) → Renames g (with_name (with_node g i p) d name o) d name o
renames_beside g i p d name o = let r = renames (with_node g i p) d name o in record { here = r.here; other = r.other }

-- ---- how many

abbrev Names : Graph → ℕ → ℕ × List ℕ → Type 0
Names g i x = g.name x.0 x.1 ≡ Some i

-- a number has one number of names
pub one_count : (g : Graph) (i k m : ℕ) → HasNames g i k → HasNames g i m → k ≡ m
one_count g i k m a b = sym a.2 ∙ ap length (Lists-only pair_key (Names g i) a.0 b.0 a.1 b.1) ∙ b.2

pub count_is : (g : Graph) (i k m : ℕ) → k ≡ m → HasNames g i k → HasNames g i m
count_is g i k m e a = (a.0, a.1, a.2 ∙ e)

-- what has a name has at least one
pub not_none : (g : Graph) (i d : ℕ) (name : List ℕ) → HasNames g i 0 → g.name d name ≡ Some i → ⊥
not_none g i d name h e = let inside = h.1.all (d, name) e in let none = h.2 in omega (arith, inside.1, none)

-- what has names has one
pub some_name : (g : Graph) (i k : ℕ) → HasNames g i (suc k) → (x : ℕ × List ℕ) × (g.name x.0 x.1 ≡ Some i)
some_name g i k h = first h.0 h.1 h.2 where
  first : (xs : List (ℕ × List ℕ)) → AreNames g i xs → length xs ≡ suc k → (x : ℕ × List ℕ) × (g.name x.0 x.1 ≡ Some i)
  first [] l e = absurd (omega (arith, e))
  first (x ∷ xs) l e = (x, l.each x (Contains-head x xs))

pub some_count : (g : Graph) (i k d : ℕ) (name : List ℕ) → HasNames g i k → g.name d name ≡ Some i → (m : ℕ) × (k ≡ suc m)
some_count g i zero d name h e = absurd (not_none g i d name h e)
some_count g i (suc m) d name h e = (m, refl)

pub no_names : (g : Graph) (i : ℕ) → ((d : ℕ) (name : List ℕ) → g.name d name ≡ Some i → ⊥) → HasNames g i 0
no_names g i out = ([], record { rising = tt; each = λ x c. absurd (none_in x c); all = λ x h. absurd (out x.0 x.1 h) }, refl)

module _ {g h : Graph} {d : ℕ} {name : List ℕ} {o : Option ℕ} (r : Renames g h d name o) where
  there : (i : ℕ) → (g.name d name ≡ Some i → ⊥) → (x : ℕ × List ℕ) → Names g i x → Names h i x
  there i out x e = elim (that_or d name x) [
    | inl w ↦ absurd (out (subst (Names g i) w e))
    | inr w ↦ r.other x w ∙ e
  ]

  back : (i : ℕ) → (x : ℕ × List ℕ) → Names h i x → (x ≡ (d, name)) ⊎ Names g i x
  back i x e = elim (that_or d name x) [ inl w ↦ inl w | inr w ↦ inr (sym (r.other x w) ∙ e) ]

  back_only : (i : ℕ) → (o ≡ Some i → ⊥) → (x : ℕ × List ℕ) → Names h i x → Names g i x
  back_only i out x e = elim (that_or d name x) [
    | inl w ↦ absurd (out (sym r.here ∙ subst (Names h i) w e))
    | inr w ↦ sym (r.other x w) ∙ e
  ]

  there_or : (i : ℕ) → (x : ℕ × List ℕ) → Names g i x → (x ≡ (d, name)) ⊎ Names h i x
  there_or i x e = elim (that_or d name x) [ inl w ↦ inl w | inr w ↦ inr (r.other x w ∙ e) ]

  -- a name more
  pub names_more : (i k : ℕ) → o ≡ Some i → (g.name d name ≡ Some i → ⊥) → HasNames g i k → HasNames h i (suc k)
  names_more i k is out a =
      let m = lists_more pair_key (Names g i) (Names h i) pair_only (d, name) a.0 out (r.here ∙ is) (there i out) (back i) a.1 in
      (m.0, m.1, m.2 ∙ ap suc a.2)

  -- a name less
  pub names_less : (i k : ℕ) → g.name d name ≡ Some i → (o ≡ Some i → ⊥) → HasNames g i (suc k) → HasNames h i k
  names_less i k is out a =
      let m = lists_less pair_key (Names g i) (Names h i) (d, name) a.0 is (λ e. out (sym r.here ∙ e)) (back_only i out) (there_or i) a.1 in
      (m.0, m.1, (let e = m.2 in let f = a.2 in omega (arith, e, f)))

  -- the same names
  pub names_same : (i k : ℕ) → (g.name d name ≡ Some i → ⊥) → (o ≡ Some i → ⊥) → HasNames g i k → HasNames h i k
  names_same i k off out a = (a.0, Lists-same pair_key (Names g i) (Names h i) a.0 (there i off) (back_only i out) a.1, a.2)

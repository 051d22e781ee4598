-- A rename makes no fault between inodes, where the way to the new name doesn't pass the node, and else it makes one.
use Rattle.std.proofs.Common.{◌≡◌, ◌≢◌, ℕ, suc, inl, inr, Option, Some, None, List, [], ◌∷◌, length, refl, sym, ◌∙◌, subst, arith}
use Rattle.std.specs.List.{Contains}
use Rattle.std.proofs.lemmas.Bool.{cases_eq}
use Rattle.std.proofs.lemmas.Option.{none-some, same_Some}
use Rattle.nv_super.specs.declared.kind.Kind.{Kind}
use Rattle.nv_super.specs.declared.kind.Kind.TheVariants.{File, Directory}
use Rattle.nv_super.proofs.Rising.{Contains-cons}
use Rattle.nv_super.proofs.Members.{none_in}
use Rattle.nv_super.proofs.Options.{some_is}
use Rattle.nv_graph.specs.Graph.{Node, Graph, walked, passed, IsOfKind, HasNames, IsReached, IsReachedPast}
use Rattle.nv_graph.specs.Graph as graph
use Rattle.nv_graph.specs.Calls.{with_name, renamed}
use Rattle.nv_graph.proofs.Names.{that_or, Renames, renames, not_none, some_count, count_is, names_more, names_less, names_same}
use Rattle.nv_graph.proofs.Reach.{past_other, path_past, KeepsOthers, past_there, reached_there, past_leaf}
use Rattle.nv_graph.proofs.Sound.{due_directory, Sound, names_due}
use Rattle.nv_graph.proofs.Changes.{other_kind, not_root, file_leaf}

module _ {g : Graph} {d : ℕ} {name : List ℕ} {e : ℕ} {new : List ℕ} {i : ℕ} (s : Sound g) (named : g.name d name ≡ Some i) (dir : IsOfKind g e Directory) (absent : g.name e new ≡ None) (past : (IsReachedPast g i e → ⊥) → ⊥) where
  abbrev mid : Graph
  mid = with_name g d name None

  abbrev after : Graph
  after = renamed g d name e new i

  first : Renames g mid d name None
  first = renames g d name None

  second : Renames mid after e new (Some i)
  second = renames mid e new (Some i)

  free : mid.name e new ≡ None
  free = elim (that_or d name (e, new)) [
    | inl w ↦ absurd (none-some i (sym absent ∙ subst (λ (x : ℕ × List ℕ). g.name x.0 x.1 ≡ Some i) (sym w) named))
    | inr w ↦ first.other (e, new) w ∙ absent
  ]

  to_i : (j : ℕ) → g.name d name ≡ Some j → j ≡ i
  to_i j q = some_is j i (g.name d name) q named

  keeps : KeepsOthers g after i
  keeps f other j q ne = elim (that_or d name (f, other)) [
    | inl w ↦ absurd (ne (to_i j (subst (λ (x : ℕ × List ℕ). g.name x.0 x.1 ≡ Some j) w q)))
    | inr w ↦ elim (that_or e new (f, other)) [
      | inl v ↦ absurd (none-some j (sym absent ∙ subst (λ (x : ℕ × List ℕ). g.name x.0 x.1 ≡ Some j) v q))
      | inr v ↦ second.other (f, other) v ∙ first.other (f, other) w ∙ q
    ]
  ]

  held : (x : ℕ × List ℕ) (j : ℕ) → after.name x.0 x.1 ≡ Some j → IsOfKind g x.0 Directory
  held x j q = elim (that_or e new x) [
    | inl w ↦ subst (λ (y : ℕ × List ℕ). IsOfKind g y.0 Directory) (sym w) dir
    | inr w ↦ elim (that_or d name x) [
      | inl v ↦ absurd (none-some j (sym (subst (λ (y : ℕ × List ℕ). mid.name y.0 y.1 ≡ None) (sym v) first.here) ∙ sym (second.other x w) ∙ q))
      | inr v ↦ s.within x.0 x.1 j (sym (first.other x v) ∙ sym (second.other x w) ∙ q)
    ]
  ]

  at_new : IsReachedPast g i e → IsReached after i
  at_new p = graph.IsReached.step new (past_there keeps p) second.here

  due_i : (k : ℕ) → HasNames g i k → HasNames after i k
  due_i k a =
      let m = some_count g i k d name a named in
      let less = names_less first i m.0 named (λ q. none-some i q) (count_is g i k (suc m.0) m.1 a) in
      count_is after i (suc m.0) k (sym m.1) (names_more second i m.0 refl (λ q. none-some i (sym free ∙ q)) less)

  due_other : (j k : ℕ) → j ≢ i → HasNames g j k → HasNames after j k
  due_other j k ne a = names_same second j k (λ q. none-some j (sym free ∙ q)) (λ q. ne (sym (same_Some i j q))) (names_same first j k (λ q. ne (to_i j q)) (λ q. none-some j q) a)

  pub renamed_sound : Sound (renamed g d name e new i)
  renamed_sound = record {
    within = λ f other j q. held (f, other) j q;
    due = λ j o q. elim (cases_eq j i) [
      | inl w ↦ subst (λ (k : ℕ). HasNames after k (names_due k o)) (sym w) (due_i (names_due i o) (s.due i o (subst (λ (k : ℕ). g.node k ≡ o) w q)))
      | inr w ↦ due_other j (names_due j o) w (s.due j o q)
    ];
    near = λ j n q out. past (λ p. s.near j n q (λ r. out (reached_there keeps (at_new p) r)));
    root = s.root;
  }

-- a file stands on no way
pub file_past : (g : Graph) (d : ℕ) (name : List ℕ) (e : ℕ) (i : ℕ) (n : Node) → Sound g → g.name d name ≡ Some i → g.node i ≡ Some n → n.kind ≡ File → IsOfKind g e Directory → (IsReachedPast g i e → ⊥) → ⊥
file_past g d name e i n s named is file dir out =
    s.near e dir.0 dir.1 (λ r. out (past_leaf i (not_root s d name i named) (file_leaf s i n is file) r
    (λ w. other_kind g i n is file (subst (λ (j : ℕ). IsOfKind g j Directory) w dir))))

-- any node but a directory on the way to its new name
pub node_past : (g : Graph) (d : ℕ) (name : List ℕ) (e : ℕ) (i : ℕ) → Sound g → g.name d name ≡ Some i → IsOfKind g e Directory → (IsOfKind g i Directory → IsReachedPast g i e) → (IsReachedPast g i e → ⊥) → ⊥
node_past g d name e i s named dir clear = of_node (g.node i) refl where
  of_kind : (n : Node) → g.node i ≡ Some n → (k : Kind) → n.kind ≡ k → (IsReachedPast g i e → ⊥) → ⊥
  of_kind n is File q = file_past g d name e i n s named is q dir
  of_kind n is Directory q = λ out. out (clear (n, is, q))

  of_node : (o : Option Node) → g.node i ≡ o → (IsReachedPast g i e → ⊥) → ⊥
  of_node None q = absurd (not_none g i d name (s.due i None q) named)
  of_node (Some n) q = of_kind n q n.kind refl

-- by the path to the new name
pub renamed_by_path : (g : Graph) (d : ℕ) (name : List ℕ) (path : List (List ℕ)) (e : ℕ) (new : List ℕ) (i : ℕ) → Sound g → g.name d name ≡ Some i → walked g 1 path ≡ Some e → IsOfKind g e Directory → g.name e new ≡ None
    → (IsOfKind g i Directory → Contains (passed g 1 path) i → ⊥) → Sound (renamed g d name e new i)
renamed_by_path g d name path e new i s named is dir absent clear =
    renamed_sound s named dir absent (node_past g d name e i s named dir (λ k. path_past g i path 1 e (graph.IsReachedPast.root (not_root s d name i named)) is (clear k)))

-- what has one name hasn't another
one_name : (g : Graph) (i : ℕ) (x y : ℕ × List ℕ) → HasNames g i 1 → g.name x.0 x.1 ≡ Some i → g.name y.0 y.1 ≡ Some i → x ≡ y
one_name g i x y h a b = only h.0 h.2 (h.1.all x a) (h.1.all y b) where
  only : (xs : List (ℕ × List ℕ)) → length xs ≡ 1 → Contains xs x → Contains xs y → x ≡ y
  only [] e c d = absurd (none_in x c)
  only (z ∷ []) e c d = elim (Contains-cons z [] x c) [
    | inl v ↦ elim (Contains-cons z [] y d) [ inl w ↦ v ∙ sym w | inr w ↦ absurd (none_in y w) ]
    | inr v ↦ absurd (none_in x v)
  ]
  only (z ∷ u ∷ xs) e c d = absurd (omega (arith, e))

-- a directory that was renamed to where each way passes it isn't reached
pub lost : (g : Graph) (d : ℕ) (name : List ℕ) (e : ℕ) (new : List ℕ) (i : ℕ) → Sound g → g.name d name ≡ Some i → g.name e new ≡ None → IsOfKind g i Directory → (IsReachedPast g i e → ⊥) → Sound (renamed g d name e new i) → ⊥
lost g d name e new i s named absent dir cut after = after.near i dir.0 dir.1 (λ r. past_other (past r) refl) where
  mid : Graph
  mid = with_name g d name None

  h : Graph
  h = renamed g d name e new i

  one : HasNames g i 1
  one = count_is g i _ 1 (due_directory i dir.0.links dir.0.kind dir.2 (not_root s d name i named)) (s.due i (Some dir.0) dir.1)

  first : Renames g mid d name None
  first = renames g d name None

  second : Renames mid h e new (Some i)
  second = renames mid e new (Some i)

  past : {j : ℕ} → IsReached h j → IsReachedPast g i j
  past graph.IsReached.root = graph.IsReachedPast.root (not_root s d name i named)
  past (graph.IsReached.step {d = f} {i = j} other before q) = elim (that_or e new (f, other)) [
    | inl w ↦ absurd (cut (subst (λ (x : ℕ × List ℕ). IsReachedPast g i x.0) w (past before)))
    | inr w ↦ elim (that_or d name (f, other)) [
      | inl v ↦ absurd (none-some j (sym (subst (λ (x : ℕ × List ℕ). mid.name x.0 x.1 ≡ None) (sym v) first.here) ∙ sym (second.other (f, other) w) ∙ q))
      | inr v ↦ (
          let old : g.name f other ≡ Some j = sym (first.other (f, other) v) ∙ sym (second.other (f, other) w) ∙ q in
          graph.IsReachedPast.step other (past before) old (λ z. v (one_name g i (f, other) (d, name) one (subst (λ (k : ℕ). g.name f other ≡ Some k) z old) named)))
    ]
  ]

-- A rename to a name of another node makes no fault between inodes, where that node has no names: the name is taken from it first.
use Rattle.std.proofs.Common.{◌≡◌, ◌≢◌, ℕ, inl, inr, Bool, cond, Option, Some, None, List, [], ◌∷◌, refl, ap, sym, ◌∙◌, subst}
use Rattle.std.specs.List.{Contains}
use Rattle.std.specs.Option.{option_and_then, option_map_or}
use Rattle.std.proofs.lemmas.Bool.{cases_Bool}
use Rattle.nv_super.specs.declared.kind.Kind.TheVariants.{Directory}
use Rattle.nv_super.proofs.Options.{some_is}
use Rattle.nv_graph.specs.Graph.{Node, Graph, IsOfKind, NoCrossFaults, walked, passed}
use Rattle.nv_graph.specs.Calls.{SameGraph, is_name, renamed, replaced, with_name, with_node}
use Rattle.nv_graph.proofs.Names.{Renames, node_other, renames_beside, that_or}
use Rattle.nv_graph.proofs.Renamed.{renamed_by_path}
use Rattle.nv_graph.proofs.Root.{same_faultless}
use Rattle.nv_graph.proofs.Sound.{Sound, faultless}

module _ {g : Graph} {d : ℕ} {name : List ℕ} (path : List (List ℕ)) {e : ℕ} {new : List ℕ} {i j : ℕ} (s : Sound g) (named : g.name d name ≡ Some i) (leads : walked g 1 path ≡ Some e) (there : g.name e new ≡ Some j) (differ : i ≢ j)
    (clear : IsOfKind g i Directory → Contains (passed g 1 path) i → ⊥) (bare : (q : List ℕ) (k : ℕ) → g.name j q ≡ Some k → ⊥) (left : Option Node) where
  -- the graph without the name, and with this left of the node
  abbrev mid : Graph
  mid = with_name (with_node g j left) e new None

  cut : Renames g mid e new None
  cut = renames_beside g j left e new None

  e_differs : e ≢ j
  e_differs same = bare new j (ap (λ (k : ℕ). g.name k new) (sym same) ∙ there)

  -- a path from a node without names ends there
  stays_there : (path : List (List ℕ)) → walked g j path ≡ Some e → ⊥
  stays_there [] h = e_differs (sym (some_is j e (Some j) refl h))
  stays_there (q ∷ path) h = by (g.name j q) refl h
    where
      by : (o : Option ℕ) → g.name j q ≡ o → option_and_then (λ k. walked g k path) o ≡ Some e → ⊥
      by None is h = let clash : None ≡ Some e = h in absurd (cc)
      by (Some k) is h = bare q k is

  -- a path that led to e does so still, over the same nodes
  still : (path : List (List ℕ)) (a : ℕ) → walked g a path ≡ Some e → (walked mid a path ≡ Some e) × (passed mid a path ≡ passed g a path)
  still [] a h = (h, refl)
  still (q ∷ path) a h = by (still path) (g.name a q) refl h
    where
      by : ((k : ℕ) → walked g k path ≡ Some e → (walked mid k path ≡ Some e) × (passed mid k path ≡ passed g k path)) → (o : Option ℕ) → g.name a q ≡ o → option_and_then (λ k. walked g k path) o ≡ Some e
          → (walked mid a (q ∷ path) ≡ Some e) × (passed mid a (q ∷ path) ≡ passed g a (q ∷ path))
      by more None is h = let clash : None ≡ Some e = h in absurd (cc)
      by more (Some k) is h = elim (that_or e new (a, q)) [
        | inl w ↦ absurd (
            let to : g.name a q ≡ Some j = subst (λ (x : ℕ × List ℕ). g.name x.0 x.1 ≡ Some j) (sym w) there in
            let way : walked g k path ≡ Some e = h in
            stays_there path (ap (λ (m : ℕ). walked g m path) (some_is j k (g.name a q) to is) ∙ way))
        | inr w ↦ (
            let same : mid.name a q ≡ Some k = cut.other (a, q) w ∙ is in
            let rest = more k h in (
              ap (λ (o : Option ℕ). option_and_then (λ m. walked mid m path) o) same ∙ rest.0,
              ap (λ (o : Option ℕ). a ∷ option_map_or (λ m. passed mid m path) o []) same ∙ ap (λ (l : List ℕ). a ∷ l) rest.1
                  ∙ sym (ap (λ (o : Option ℕ). a ∷ option_map_or (λ m. passed g m path) o []) is),
            ))
      ]

  named_still : mid.name d name ≡ Some i
  named_still = elim (that_or e new (d, name)) [
    | inl w ↦ absurd (differ (some_is i j (g.name d name) named (subst (λ (x : ℕ × List ℕ). g.name x.0 x.1 ≡ Some j) (sym w) there)))
    | inr w ↦ cut.other (d, name) w ∙ named
  ]

  kind_still : IsOfKind mid e Directory
  kind_still = let k = s.within e new j there in (k.0, node_other g j left e e_differs ∙ k.1, k.2)

  clear_still : IsOfKind mid i Directory → Contains (passed mid 1 path) i → ⊥
  clear_still k c = clear (k.0, sym (node_other g j left i differ) ∙ k.1, k.2) (subst (λ (l : List ℕ). Contains l i) (still path 1 leads).1 c)

  -- the new name is set over what it stood for
  same : SameGraph (renamed mid d name e new i) (replaced g d name e new i j left)
  same = record {
    node = λ k. refl;
    name = λ f q. elim (cases_Bool (is_name e new f q)) [
      | inl is ↦ ap (λ (b : Bool). cond b (Some i) (cond (is_name d name f q) None (g.name f q))) is ∙ sym (ap (λ (b : Bool). cond b (Some i) (cond (is_name d name f q) None (cond (is_name e new f q) None (g.name f q)))) is)
      | inr not ↦ sym (ap (λ (b : Bool). cond (is_name e new f q) (Some i) (cond (is_name d name f q) None (cond b None (g.name f q)))) not)
    ];
  }

  pub replaced_faultless : Sound mid → NoCrossFaults (replaced g d name e new i j left)
  replaced_faultless after = same_faultless (renamed mid d name e new i) (replaced g d name e new i j left) same
      (faultless _ (renamed_by_path mid d name path e new i after named_still (still path 1 leads).0 kind_still cut.here clear_still))

-- The link count of each file is its number of names: changes of a tree that keep it so.
use Rattle.std.proofs.Common.{◌≡◌, ℕ, zero, suc, ◌+◌, ◌⊎◌, List, [], ◌∷◌, length, Some, None, refl, sym, ◌∙◌, ap, subst, inl, inr, arith}
use Rattle.std.specs.List.{Contains}
use Rattle.std.proofs.lemmas.Bool.{cases_eq}
use Rattle.nv_super.proofs.Members.{none_in, stands}
use Rattle.nv_super.proofs.Rising.{Contains-cons, Contains-head, Contains-tail}
use Rattle.nv_tree.specs.Tree.{Node, Tree, SameTree, name_in}
use Rattle.nv_tree.specs.Calls.{edit}
use Rattle.nv_tree.specs.Laws.{SetsName}
use Rattle.nv_tree.proofs.Alike.{name_alike}
use Rattle.nv_restored.specs.Links.{AreNamesOf, IsOnce, LinksAreNames}
use Rattle.nv_restored.proofs.Copies.{edit_at, edit_off, edit_used, key_cases, same_node, used_alike}

-- ---- lists of names

more_once : (x : ℕ × List ℕ) (names : List (ℕ × List ℕ)) → IsOnce names → (Contains names x → ⊥) → IsOnce (x ∷ names)
more_once x names once new zero zero y here there = refl
more_once x names once new zero (suc k) y here there = let same : x ≡ y = first x y here in absurd (new (subst (λ (z : ℕ × List ℕ). Contains names z) (sym same) (stands names k y there)))
  where
    first : (a b : ℕ × List ℕ) → Some a ≡ Some b → a ≡ b
    first a b h = cc
more_once x names once new (suc j) zero y here there = let same : x ≡ y = first x y there in absurd (new (subst (λ (z : ℕ × List ℕ). Contains names z) (sym same) (stands names j y here)))
  where
    first : (a b : ℕ × List ℕ) → Some a ≡ Some b → a ≡ b
    first a b h = cc
more_once x names once new (suc j) (suc k) y here there = ap suc (once j k y here there)

-- ---- what an inode in use was before a change

pub edit_node : (v : Tree) (j : ℕ) (change : Node → Node) (k : ℕ) (b : Node) → edit j change v k ≡ Some b → (a : Node) × (v k ≡ Some a) × (((k ≡ j) × (b ≡ change a)) ⊎ ((k ≡ j → ⊥) × (b ≡ a)))
edit_node v j change k b there = by (cases_eq k j) (edit_used v j change k b there)
  where
    by : (k ≡ j) ⊎ (k ≡ j → ⊥) → (c : Node) × (v k ≡ Some c) → (a : Node) × (v k ≡ Some a) × (((k ≡ j) × (b ≡ change a)) ⊎ ((k ≡ j → ⊥) × (b ≡ a)))
    by (inl is) c =
        let now : edit j change v k ≡ Some (change c.0) = ap (edit j change v) is ∙ edit_at v j change c.0 (sym (ap v is) ∙ c.1) in
        (c.0, c.1, inl (is, same_node b (change c.0) (sym there ∙ now)))
    by (inr differs) c = (c.0, c.1, inr (differs, same_node b c.0 (sym there ∙ edit_off v j change k differs ∙ c.1)))

-- ---- changes

pub links_alike : (v w : Tree) → SameTree v w → SameTree w v → LinksAreNames v → LinksAreNames w
links_alike v w same other h i c there file =
    let a = used_alike w v other i c there in
    let r = h i a.0 a.1 (sym a.2.kind ∙ file) in
    let names = r.1 in
    (r.0, record { once = names.once; each = λ x here. sym (name_alike v w same x.0 x.1) ∙ names.each x here; all = λ x is. names.all x (name_alike v w same x.0 x.1 ∙ is) }, r.2 ∙ sym a.2.links)

-- names and link counts stay
pub links_kept : (v w : Tree) → ((i : ℕ) (c : Node) → w i ≡ Some c → (a : Node) × (v i ≡ Some a) × (a.kind ≡ c.kind) × (a.links ≡ c.links)) → ((e : ℕ) (q : List ℕ) → name_in w e q ≡ name_in v e q) → LinksAreNames v → LinksAreNames w
links_kept v w nodes same h i c there file =
    let a = nodes i c there in
    let r = h i a.0 a.1 (a.2 ∙ file) in
    let names = r.1 in
    (r.0, record { once = names.once; each = λ x here. same x.0 x.1 ∙ names.each x here; all = λ x is. names.all x (sym (same x.0 x.1) ∙ is) }, r.2 ∙ a.3)

pub links_edited : (v : Tree) (j : ℕ) (change : Node → Node) → ((a : Node) → a.kind ≡ (change a).kind) → ((a : Node) → a.links ≡ (change a).links) → ((e : ℕ) (q : List ℕ) → name_in (edit j change v) e q ≡ name_in v e q) → LinksAreNames v → LinksAreNames (edit j change v)
links_edited v j change kinds links names h = links_kept v (edit j change v) nodes names h
  where
    by : (i : ℕ) (a c : Node) → v i ≡ Some a → ((i ≡ j) × (c ≡ change a)) ⊎ ((i ≡ j → ⊥) × (c ≡ a)) → (b : Node) × (v i ≡ Some b) × (b.kind ≡ c.kind) × (b.links ≡ c.links)
    by i a c was (inl is) = (a, was, kinds a ∙ ap (λ (x : Node). x.kind) (sym is.1), links a ∙ ap (λ (x : Node). x.links) (sym is.1))
    by i a c was (inr is) = (a, was, ap (λ (x : Node). x.kind) (sym is.1), ap (λ (x : Node). x.links) (sym is.1))

    nodes : (i : ℕ) (c : Node) → edit j change v i ≡ Some c → (a : Node) × (v i ≡ Some a) × (a.kind ≡ c.kind) × (a.links ≡ c.links)
    nodes i c there = let a = edit_node v j change i c there in by i a.0 c a.1 a.2

-- ---- one name more

pair_is : (x : ℕ × List ℕ) (e : ℕ) (q : List ℕ) → x.0 ≡ e → x.1 ≡ q → x ≡ (e, q)
pair_is x e q one two =
    let pair : ℕ → List ℕ → ℕ × List ℕ = λ a b. (a, b) in
    ap (λ (a : ℕ). pair a x.1) one ∙ ap (pair e) two

-- a name that was set is the new one or was there before
set_cases : (v w : Tree) (e n : ℕ) (q : List ℕ) → SetsName v e q (Some n) w → (i : ℕ) (x : ℕ × List ℕ) → name_in w x.0 x.1 ≡ Some i → ((x ≡ (e, q)) × (i ≡ n)) ⊎ (name_in v x.0 x.1 ≡ Some i)
set_cases v w e n q sets i x is = by (cases_eq x.0 e) (key_cases x.1 q)
  where
    old : (x.0 ≡ e → x.1 ≡ q → ⊥) → ((x ≡ (e, q)) × (i ≡ n)) ⊎ (name_in v x.0 x.1 ≡ Some i)
    old other = inr (sym (sets.others x.0 x.1 other) ∙ is)

    by : (x.0 ≡ e) ⊎ (x.0 ≡ e → ⊥) → (x.1 ≡ q) ⊎ (x.1 ≡ q → ⊥) → ((x ≡ (e, q)) × (i ≡ n)) ⊎ (name_in v x.0 x.1 ≡ Some i)
    by (inr differs) key = old (λ at k. differs at)
    by (inl at) (inr differs) = old (λ a k. differs k)
    by (inl at) (inl key) =
        let now : Some i ≡ Some n = sym is ∙ ap (λ y. name_in w y x.1) at ∙ ap (name_in w e) key ∙ sets.here in
        inl (pair_is x e q at key, cc)

-- the new name isn't among those of an inode before
not_free : (v : Tree) (e : ℕ) (q : List ℕ) → name_in v e q ≡ None → (i : ℕ) (x : ℕ × List ℕ) → name_in v x.0 x.1 ≡ Some i → x ≡ (e, q) → ⊥
not_free v e q free i x is same =
    let never : Some i ≡ None = sym is ∙ ap (λ (y : ℕ × List ℕ). name_in v y.0 y.1) same ∙ free in
    cc

module _ (v w : Tree) (e n : ℕ) (q : List ℕ) (sets : SetsName v e q (Some n) w) (free : name_in v e q ≡ None) where
  -- the names of another inode stay
  names_stay : (i : ℕ) (names : List (ℕ × List ℕ)) → AreNamesOf v i names → (i ≡ n → ⊥) → AreNamesOf w i names
  names_stay i names h differs = record {
    once = h.once;
    each = λ x here. sets.others x.0 x.1 (λ at key. not_free v e q free i x (h.each x here) (pair_is x e q at key)) ∙ h.each x here;
    all = λ x is. elim (set_cases v w e n q sets i x is) [ inl new ↦ absurd (differs new.1) | inr was ↦ h.all x was ];
  }

  -- its own are one more
  names_grow : (names : List (ℕ × List ℕ)) → AreNamesOf v n names → AreNamesOf w n ((e, q) ∷ names)
  names_grow names h = record {
    once = more_once (e, q) names h.once (λ here. not_free v e q free n (e, q) (h.each (e, q) here) refl);
    each = λ x here. elim (Contains-cons (e, q) names x here) [
      | inl is ↦ ap (λ (y : ℕ × List ℕ). name_in w y.0 y.1) is ∙ sets.here
      | inr old ↦ sets.others x.0 x.1 (λ at key. not_free v e q free n x (h.each x old) (pair_is x e q at key)) ∙ h.each x old
    ];
    all = λ x is. elim (set_cases v w e n q sets n x is) [
      | inl new ↦ subst (λ (y : ℕ × List ℕ). Contains ((e, q) ∷ names) y) (sym new.0) (Contains-head (e, q) names)
      | inr was ↦ Contains-tail (e, q) names x (h.all x was)
    ];
  }

  -- of an inode that had no name it is the only one
  first_name : ((x : ℕ × List ℕ) → name_in v x.0 x.1 ≡ Some n → ⊥) → AreNamesOf w n ((e, q) ∷ [])
  first_name none = names_grow [] (record { once = λ j k x here. absurd (cc); each = λ x here. absurd (none_in x here); all = λ x is. absurd (none x is) })

  -- a new inode with one link
  pub links_created : ((x : ℕ × List ℕ) → name_in v x.0 x.1 ≡ Some n → ⊥) → ((i : ℕ) (c : Node) → w i ≡ Some c → ((i ≡ n) × (c.links ≡ 1)) ⊎ ((i ≡ n → ⊥) × ((a : Node) × (v i ≡ Some a) × (a.kind ≡ c.kind) × (a.links ≡ c.links)))) → LinksAreNames v → LinksAreNames w
  links_created none nodes h i c there file = by (nodes i c there)
    where
      by : ((i ≡ n) × (c.links ≡ 1)) ⊎ ((i ≡ n → ⊥) × ((a : Node) × (v i ≡ Some a) × (a.kind ≡ c.kind) × (a.links ≡ c.links))) → (names : List (ℕ × List ℕ)) × AreNamesOf w i names × (length names ≡ c.links)
      by (inl is) = ((e, q) ∷ [], subst (λ (y : ℕ). AreNamesOf w y ((e, q) ∷ [])) (sym is.0) (first_name none), sym is.1)
      by (inr old) =
          let a = old.1 in
          let r = h i a.0 a.1 (a.2 ∙ file) in
          (r.0, names_stay i r.0 r.1 old.0, r.2 ∙ a.3)

  -- a further name with one link more
  pub links_linked : ((i : ℕ) (c : Node) → w i ≡ Some c → (a : Node) × (v i ≡ Some a) × (a.kind ≡ c.kind) × (((i ≡ n) × (c.links ≡ a.links + 1)) ⊎ ((i ≡ n → ⊥) × (c.links ≡ a.links)))) → LinksAreNames v → LinksAreNames w
  links_linked nodes h i c there file = let a = nodes i c there in by a.0 (h i a.0 a.1 (a.2 ∙ file)) a.3
    where
      by : (a : Node) → (names : List (ℕ × List ℕ)) × AreNamesOf v i names × (length names ≡ a.links) → ((i ≡ n) × (c.links ≡ a.links + 1)) ⊎ ((i ≡ n → ⊥) × (c.links ≡ a.links)) → (names : List (ℕ × List ℕ)) × AreNamesOf w i names × (length names ≡ c.links)
      by a r (inl is) =
          let long = r.2 in
          let more = is.1 in
          ((e, q) ∷ r.0, subst (λ (y : ℕ). AreNamesOf w y ((e, q) ∷ r.0)) (sym is.0) (names_grow r.0 (subst (λ (y : ℕ). AreNamesOf v y r.0) is.0 r.1)), omega (arith, long, more))
      by a r (inr old) = (r.0, names_stay i r.0 r.1 old.0, r.2 ∙ sym old.1)

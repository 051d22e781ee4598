-- What create, link, unlink and rmdir make of a graph without faults between inodes has none.
use Rattle.std.proofs.Common.{◌≡◌, ◌≢◌, ℕ, suc, ◌+◌, ◌-◌, ◌<◌, ◌≤◌, inl, inr, Option, Some, None, List, refl, ap, sym, ◌∙◌, subst, arith}
use Rattle.std.proofs.lemmas.Bool.{cases_eq}
use Rattle.std.proofs.lemmas.Option.{none-some, same_Some}
use Rattle.nv_super.specs.declared.kind.Kind.{Kind}
use Rattle.nv_super.specs.declared.kind.Kind.TheVariants.{File, Directory}
use Rattle.nv_super.proofs.Options.{some_is}
use Rattle.nv_graph.specs.Graph.{Node, Graph, IsOfKind, HasNames, IsReached}
use Rattle.nv_graph.specs.Graph as graph
use Rattle.nv_graph.specs.Calls.{made, linked, unlinked, removed}
use Rattle.nv_graph.proofs.Names.{node_here, node_other, that_or, Renames, renames_beside, not_none, some_name, some_count, count_is, names_more, names_less, names_same}
use Rattle.nv_graph.proofs.Reach.{KeepsOthers, past_there, past_leaf}
use Rattle.nv_graph.proofs.Sound.{Sound, names_due, kind_due, due_directory, due_root, due_file}

-- h differs from g in node i, which names nothing, and in one name, which is of i before and after if of any
record Change (g h : Graph) (i : ℕ) (p : Option Node) (d : ℕ) (name : List ℕ) (o : Option ℕ) : Type 0 where
  here : h.node i ≡ p
  nodes : (j : ℕ) → j ≢ i → h.node j ≡ g.node j
  names : Renames g h d name o
  root : i ≢ 1
  leaf : (other : List ℕ) (j : ℕ) → g.name i other ≡ Some j → ⊥
  was : (j : ℕ) → g.name d name ≡ Some j → j ≡ i
  is : (j : ℕ) → o ≡ Some j → (j ≡ i) × (d ≢ i) × IsOfKind g d Directory
  due : HasNames h i (names_due i p)
  some : (n : Node) → p ≡ Some n → (k : ℕ) × (names_due i p ≡ suc k)

module _ {g h : Graph} {i : ℕ} {p : Option Node} {d : ℕ} {name : List ℕ} {o : Option ℕ} (s : Sound g) (c : Change g h i p d name o) where
  keeps : KeepsOthers g h i
  keeps e other j q ne = elim (that_or d name (e, other)) [
    | inl w ↦ absurd (ne (c.was j (subst (λ (x : ℕ × List ℕ). g.name x.0 x.1 ≡ Some j) w q)))
    | inr w ↦ c.names.other (e, other) w ∙ q
  ]

  still : {j : ℕ} → j ≢ i → IsReached g j → IsReached h j
  still ne r = past_there keeps (past_leaf i c.root c.leaf r ne)

  near_kept : {j : ℕ} → j ≢ i → ((IsReached g j → ⊥) → ⊥) → (IsReached h j → ⊥) → ⊥
  near_kept ne near out = near (λ r. out (still ne r))

  kind_kept : (j : ℕ) (kind : Kind) → j ≢ i → IsOfKind g j kind → IsOfKind h j kind
  kind_kept j kind ne k = (k.0, c.nodes j ne ∙ k.1, k.2)

  -- a directory of g other than i has each name of h
  held : (x : ℕ × List ℕ) (j : ℕ) → h.name x.0 x.1 ≡ Some j → (x.0 ≢ i) × IsOfKind g x.0 Directory
  held x j q = elim (that_or d name x) [
    | inl w ↦ subst (λ (y : ℕ × List ℕ). (y.0 ≢ i) × IsOfKind g y.0 Directory) (sym w)
        (let t = c.is j (sym c.names.here ∙ subst (λ (y : ℕ × List ℕ). h.name y.0 y.1 ≡ Some j) w q) in (t.1, t.2))
    | inr w ↦ (let e = sym (c.names.other x w) ∙ q in (λ f. c.leaf x.1 j (subst (λ (y : ℕ). g.name y x.1 ≡ Some j) f e), s.within x.0 x.1 j e))
  ]

  near_i : (k : ℕ) → HasNames h i (suc k) → (IsReached h i → ⊥) → ⊥
  near_i k names out =
      let x = some_name h i k names in
      let t = held x.0 i x.1 in
      near_kept t.0 (s.near x.0.0 t.1.0 t.1.1) (λ r. out (graph.IsReached.step x.0.1 r x.1))

  due_other : (j : ℕ) (q : Option Node) → j ≢ i → g.node j ≡ q → HasNames h j (names_due j q)
  due_other j q ne e = names_same c.names j (names_due j q) (λ u. ne (c.was j u)) (λ u. ne ((c.is j u).0)) (s.due j q e)

  changed : Sound h
  changed = record {
    within = λ e other j q. (let t = held (e, other) j q in kind_kept e Directory t.0 t.1);
    due = λ j q e. elim (cases_eq j i) [
      | inl w ↦ subst (λ (k : ℕ). HasNames h k (names_due k q)) (sym w)
          (subst (λ (u : Option Node). HasNames h i (names_due i u)) (sym c.here ∙ subst (λ (k : ℕ). h.node k ≡ q) w e) c.due)
      | inr w ↦ due_other j q w (sym (c.nodes j w) ∙ e)
    ];
    near = λ j n e. elim (cases_eq j i) [
      | inl w ↦ (
          let is : p ≡ Some n = sym c.here ∙ subst (λ (k : ℕ). h.node k ≡ Some n) w e in
          let k = c.some n is in
          subst (λ (y : ℕ). (IsReached h y → ⊥) → ⊥) (sym w) (near_i k.0 (count_is h i (names_due i p) (suc k.0) k.1 c.due)))
      | inr w ↦ near_kept w (s.near j n (sym (c.nodes j w) ∙ e))
    ];
    root = kind_kept 1 Directory (λ e. c.root (sym e)) s.root;
  }

-- ---- what the calls start from

-- a file is no directory
pub other_kind : (g : Graph) (i : ℕ) (n : Node) → g.node i ≡ Some n → n.kind ≡ File → IsOfKind g i Directory → ⊥
other_kind g i n e file k = let same : k.0 ≡ n = some_is k.0 n (g.node i) k.1 e in let z : Directory ≡ File = sym k.2 ∙ ap (λ (m : Node). m.kind) same ∙ file in cc

pub not_root : {g : Graph} → Sound g → (d : ℕ) (name : List ℕ) (i : ℕ) → g.name d name ≡ Some i → i ≢ 1
not_root {g} s d name i e one = not_none g 1 d name
    (count_is g 1 _ 0 (due_root s.root.0.links s.root.0.kind s.root.2) (s.due 1 (Some s.root.0) s.root.1))
    (subst (λ (j : ℕ). g.name d name ≡ Some j) one e)

pub file_leaf : {g : Graph} → Sound g → (i : ℕ) (n : Node) → g.node i ≡ Some n → n.kind ≡ File → (other : List ℕ) (j : ℕ) → g.name i other ≡ Some j → ⊥
file_leaf {g} s i n e file other j q = other_kind g i n e file (s.within i other j q)

-- ---- the calls

pub made_sound : (g : Graph) (kind : Kind) (d : ℕ) (name : List ℕ) (i : ℕ) → Sound g → IsOfKind g d Directory → g.name d name ≡ None → g.node i ≡ None → Sound (made g kind d name i)
made_sound g kind d name i s dir absent unused = changed s (record {
  here = node_here g i p;
  nodes = node_other g i p;
  names = names;
  root = root;
  leaf = leaf;
  was = λ j e. absurd (none-some j (sym absent ∙ e));
  is = λ j e. (sym (same_Some i j e), λ q. out d dir q, dir);
  due = count_is h i 1 (kind_due i 1 kind) (sym (one kind refl)) (names_more names i 0 refl (λ e. none-some i (sym absent ∙ e)) (s.due i None unused));
  some = λ n e. (0, one kind refl);
}) where
  p : Option Node
  p = Some (record { kind = kind; links = 1 })

  h : Graph
  h = made g kind d name i

  names : Renames g h d name (Some i)
  names = renames_beside g i p d name (Some i)

  out : (e : ℕ) → IsOfKind g e Directory → e ≢ i
  out e k q = none-some k.0 (sym unused ∙ subst (λ (j : ℕ). g.node j ≡ Some k.0) q k.1)

  root : i ≢ 1
  root e = out 1 s.root (sym e)

  leaf : (other : List ℕ) (j : ℕ) → g.name i other ≡ Some j → ⊥
  leaf other j e = out i (s.within i other j e) refl

  one : (k : Kind) → kind ≡ k → kind_due i 1 k ≡ 1
  one File e = refl
  one Directory e = due_directory i 1 Directory refl root

pub linked_sound : (g : Graph) (d : ℕ) (name : List ℕ) (i : ℕ) (n : Node) → Sound g → IsOfKind g d Directory → g.name d name ≡ None → g.node i ≡ Some n → n.kind ≡ File → Sound (linked g d name i n)
linked_sound g d name i n s dir absent is file = changed s (record {
  here = node_here g i p;
  nodes = node_other g i p;
  names = names;
  root = out 1 s.root;
  leaf = file_leaf s i n is file;
  was = λ j e. absurd (none-some j (sym absent ∙ e));
  is = λ j e. (sym (same_Some i j e), (λ q. out d dir (sym q)), dir);
  due = count_is h i (suc n.links) (kind_due i (n.links + 1) n.kind) (sym due)
      (names_more names i n.links refl (λ e. none-some i (sym absent ∙ e)) (count_is g i _ n.links (due_file i n.links n.kind file) (s.due i (Some n) is)));
  some = λ m e. (n.links, due);
}) where
  p : Option Node
  p = Some (record { kind = n.kind; links = n.links + 1 })

  h : Graph
  h = linked g d name i n

  names : Renames g h d name (Some i)
  names = renames_beside g i p d name (Some i)

  out : (e : ℕ) → IsOfKind g e Directory → i ≢ e
  out e k q = other_kind g i n is file (subst (λ (j : ℕ). IsOfKind g j Directory) (sym q) k)

  due : kind_due i (n.links + 1) n.kind ≡ suc n.links
  due = due_file i (n.links + 1) n.kind file ∙ omega arith

pub unlinked_sound : (g : Graph) (d : ℕ) (name : List ℕ) (i : ℕ) (n : Node) → Sound g → g.name d name ≡ Some i → g.node i ≡ Some n → n.kind ≡ File → 1 < n.links → Sound (unlinked g d name i n)
unlinked_sound g d name i n s named is file more = changed s (record {
  here = node_here g i p;
  nodes = node_other g i p;
  names = names;
  root = not_root s d name i named;
  leaf = file_leaf s i n is file;
  was = λ j e. some_is j i (g.name d name) e named;
  is = λ j e. absurd (none-some j e);
  due = count_is h i (n.links - 1) (kind_due i (n.links - 1) n.kind) (sym (due_file i (n.links - 1) n.kind file))
      (names_less names i (n.links - 1) named (λ e. none-some i e)
      (count_is g i _ (suc (n.links - 1)) (due_file i n.links n.kind file ∙ one_more n.links more) (s.due i (Some n) is)));
  some = λ m e. (n.links - 2, due_file i (n.links - 1) n.kind file ∙ two_more n.links more);
}) where
  p : Option Node
  p = Some (record { kind = n.kind; links = n.links - 1 })

  h : Graph
  h = unlinked g d name i n

  names : Renames g h d name None
  names = renames_beside g i p d name None

  one_more : (k : ℕ) → 1 < k → k ≡ suc (k - 1)
  one_more k lt = omega arith

  two_more : (k : ℕ) → 1 < k → k - 1 ≡ suc (k - 2)
  two_more k lt = omega arith

-- the one name of a node that names nothing
pub removed_sound : (g : Graph) (d : ℕ) (name : List ℕ) (i : ℕ) → Sound g → g.name d name ≡ Some i → HasNames g i 1 → ((other : List ℕ) (j : ℕ) → g.name i other ≡ Some j → ⊥) → Sound (removed g d name i)
removed_sound g d name i s named one leaf = changed s (record {
  here = node_here g i None;
  nodes = node_other g i None;
  names = names;
  root = not_root s d name i named;
  leaf = leaf;
  was = λ j e. some_is j i (g.name d name) e named;
  is = λ j e. absurd (none-some j e);
  due = names_less names i 0 named (λ e. none-some i e) (count_is g i 1 (suc 0) refl one);
  some = λ m e. absurd (none-some m e);
}) where
  names : Renames g (removed g d name i) d name None
  names = renames_beside g i None d name None

-- a file with a name has a link
pub some_link : (g : Graph) (d : ℕ) (name : List ℕ) (i : ℕ) (n : Node) → Sound g → g.name d name ≡ Some i → g.node i ≡ Some n → n.kind ≡ File → 0 < n.links
some_link g d name i n s named is file =
    let k = some_count g i n.links d name (count_is g i _ n.links (due_file i n.links n.kind file) (s.due i (Some n) is)) named in
    let e = k.1 in omega (arith, e)

pub last_removed_sound : (g : Graph) (d : ℕ) (name : List ℕ) (i : ℕ) (n : Node) → Sound g → g.name d name ≡ Some i → g.node i ≡ Some n → n.kind ≡ File → n.links ≤ 1 → Sound (removed g d name i)
last_removed_sound g d name i n s named is file last = removed_sound g d name i s named
    (count_is g i _ 1 (due_file i n.links n.kind file ∙ one n.links last (some_link g d name i n s named is file)) (s.due i (Some n) is))
    (file_leaf s i n is file) where
      one : (k : ℕ) → k ≤ 1 → 0 < k → k ≡ 1
      one k le lt = omega arith

pub directory_removed_sound : (g : Graph) (d : ℕ) (name : List ℕ) (i : ℕ) → Sound g → g.name d name ≡ Some i → IsOfKind g i Directory → ((other : List ℕ) → g.name i other ≡ None) → Sound (removed g d name i)
directory_removed_sound g d name i s named k empty = removed_sound g d name i s named
    (count_is g i _ 1 (due_directory i k.0.links k.0.kind k.2 (not_root s d name i named)) (s.due i (Some k.0) k.1))
    (λ other j e. none-some j (sym (empty other) ∙ e))

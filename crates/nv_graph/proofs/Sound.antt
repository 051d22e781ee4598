-- No fault between inodes, in the form that calls keep: each number has the names that it is due.
use Rattle.std.proofs.Common.{◌≡◌, ◌≢◌, ℕ, inl, inr, cond, nat_eq, Option, Some, None, List, refl, sym, ◌∙◌, subst}
use Rattle.std.proofs.lemmas.Bool.{cases_eq, cond-true, cond-false, eq-eqb, ne_eqb}
use Rattle.std.proofs.lemmas.Option.{none-some}
use Rattle.nv_super.specs.declared.kind.Kind.{Kind}
use Rattle.nv_super.specs.declared.kind.Kind.TheVariants.{File, Directory}
use Rattle.nv_graph.specs.Graph.{Node, Graph, IsOfKind, HasNames, IsReached, NoCrossFaults}
use Rattle.nv_graph.proofs.Names.{no_names, not_none, count_is}

-- how many names a node has to have
abbrev pub kind_due : ℕ → ℕ → Kind → ℕ
kind_due i links File = links
kind_due i links Directory = cond (nat_eq i 1) 0 1

abbrev pub names_due : ℕ → Option Node → ℕ
names_due i None = 0
names_due i (Some n) = kind_due i n.links n.kind

pub record Sound (g : Graph) : Type 0 where
  pub within : (d : ℕ) (name : List ℕ) (i : ℕ) → g.name d name ≡ Some i → IsOfKind g d Directory
  pub due : (i : ℕ) (o : Option Node) → g.node i ≡ o → HasNames g i (names_due i o)
  pub near : (i : ℕ) (n : Node) → g.node i ≡ Some n → (IsReached g i → ⊥) → ⊥
  pub root : IsOfKind g 1 Directory

pub due_directory : (i links : ℕ) (kind : Kind) → kind ≡ Directory → i ≢ 1 → kind_due i links kind ≡ 1
due_directory i links File e ne = absurd (cc)
due_directory i links Directory e ne = cond-false (nat_eq i 1) 0 1 (ne_eqb i 1 ne)

pub due_root : (links : ℕ) (kind : Kind) → kind ≡ Directory → kind_due 1 links kind ≡ 0
due_root links File e = absurd (cc)
due_root links Directory e = refl

pub due_file : (i links : ℕ) (kind : Kind) → kind ≡ File → kind_due i links kind ≡ links
due_file i links File e = refl
due_file i links Directory e = absurd (cc)

pub sound : (g : Graph) → NoCrossFaults g → Sound g
sound g f = record { within = f.within; due = due; near = f.reached; root = f.root } where
  directory : (i : ℕ) → IsOfKind g i Directory → HasNames g i (cond (nat_eq i 1) 0 1)
  directory i k = elim (cases_eq i 1) [
    | inl one ↦ count_is g i 0 _ (sym (cond-true (nat_eq i 1) 0 1 (eq-eqb i 1 one))) (subst (λ (j : ℕ). HasNames g j 0) (sym one) f.root_unnamed)
    | inr other ↦ count_is g i 1 _ (sym (cond-false (nat_eq i 1) 0 1 (ne_eqb i 1 other))) (f.directories i k other)
  ]

  of_kind : (i : ℕ) (n : Node) → g.node i ≡ Some n → (k : Kind) → n.kind ≡ k → HasNames g i (kind_due i n.links k)
  of_kind i n e File q = f.files i n e q
  of_kind i n e Directory q = directory i (n, e, q)

  due : (i : ℕ) (o : Option Node) → g.node i ≡ o → HasNames g i (names_due i o)
  due i None e = no_names g i (λ d name q. (let n = f.in_use d name i q in none-some n.0 (sym e ∙ n.1)))
  due i (Some n) e = of_kind i n e n.kind refl

pub faultless : (g : Graph) → Sound g → NoCrossFaults g
faultless g s = record {
  within = s.within;
  in_use = λ d name i e. used d name i e (g.node i) refl;
  directories = λ i k ne. count_is g i _ 1 (due_directory i k.0.links k.0.kind k.2 ne) (s.due i (Some k.0) k.1);
  root_unnamed = count_is g 1 _ 0 (due_root s.root.0.links s.root.0.kind s.root.2) (s.due 1 (Some s.root.0) s.root.1);
  files = λ i n e k. count_is g i _ n.links (due_file i n.links n.kind k) (s.due i (Some n) e);
  reached = s.near;
  root = s.root;
} where
  used : (d : ℕ) (name : List ℕ) (i : ℕ) → g.name d name ≡ Some i → (o : Option Node) → g.node i ≡ o → (n : Node) × (g.node i ≡ Some n)
  used d name i e None q = absurd (not_none g i d name (s.due i None q) e)
  used d name i e (Some n) q = (n, q)

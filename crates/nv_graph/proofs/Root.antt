-- A root alone, and graphs that show the same.
use Rattle.std.proofs.Common.{◌≡◌, ℕ, List, Option, Some, refl, ap, sym, ◌∙◌, subst, cond, nat_eq}
use Rattle.std.proofs.lemmas.Bool.{eqb-true}
use Rattle.std.proofs.lemmas.Option.{none-some, cond_some}
use Rattle.nv_super.specs.declared.kind.Kind.TheVariants.{File, Directory}
use Rattle.nv_graph.specs.Graph.{Node, Graph, IsReached, NoCrossFaults}
use Rattle.nv_graph.specs.Graph as graph
use Rattle.nv_graph.specs.Calls.{is_name, with_name, with_node, SameGraph, root_alone}
use Rattle.nv_graph.proofs.Names.{no_names}

pub same_faultless : (g h : Graph) → SameGraph g h → NoCrossFaults g → NoCrossFaults h
same_faultless g h s f =
    let same : g ≡ h = (λ k. record { node = λ i. sym (s.node i) k; name = λ d name. sym (s.name d name) k }) in
    subst NoCrossFaults same f

-- ---- one change after another

pub name_follows : (f g h : Graph) (d : ℕ) (name : List ℕ) (o : Option ℕ) → SameGraph f g → SameGraph (with_name g d name o) h → SameGraph (with_name f d name o) h
name_follows f g h d name o same then = record {
  node = λ i. then.node i ∙ same.node i;
  name = λ e other. then.name e other ∙ ap (cond (is_name d name e other) o) (same.name e other);
}

pub node_follows : (f g h : Graph) (i : ℕ) (o : Option Node) → SameGraph f g → SameGraph (with_node g i o) h → SameGraph (with_node f i o) h
node_follows f g h i o same then = record {
  node = λ j. then.node j ∙ ap (cond (nat_eq j i) o) (same.node j);
  name = λ d name. then.name d name ∙ same.name d name;
}

-- ---- a root alone

abbrev root : Node
root = record { kind = Directory; links = 1 }

only_root : (i : ℕ) (n : Node) → root_alone.node i ≡ Some n → (i ≡ 1) × (root ≡ n)
only_root i n e = let w = cond_some (nat_eq i 1) root n e in (eqb-true i 1 w.0, w.1)

pub root_faultless : NoCrossFaults root_alone
root_faultless = record {
  within = λ d name i e. absurd (none-some i e);
  in_use = λ d name i e. absurd (none-some i e);
  directories = λ i k ne. absurd (ne (only_root i k.0 k.1).0);
  root_unnamed = no_names root_alone 1 (λ d name e. none-some 1 e);
  files = λ i n e file. absurd (let w = (only_root i n e).1 in let z : Directory ≡ File = (λ k. (w k).kind) ∙ file in cc);
  reached = λ i n e out. out (subst (IsReached root_alone) (sym (only_root i n e).0) graph.IsReached.root);
  root = (root, refl, refl);
}

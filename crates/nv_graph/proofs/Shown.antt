-- What a region shows of one number: its node and its names. The graph of a region is what it shows of all numbers.
use Rattle.std.proofs.Common.{◌≡◌, ℕ, Option, Some, None, List, refl, ap, sym, ◌∙◌}
use Rattle.std.specs.Option.{option_map}
use Rattle.std.proofs.lemmas.Option.{none-some}
use Rattle.nv_region.specs.Region.{Region}
use Rattle.nv_super.specs.Layout.{Layout}
use Rattle.nv_logpage.specs.declared.found.Placed.{Placed}
use Rattle.nv_scan.specs.State.{named, links_of}
use Rattle.nv_scan.specs.Inode.{Log, IsInode, IsInUse, good_of}
use Rattle.nv_scan.proofs.Only.{IsInode-only}
use Rattle.nv_outcome.specs.Outcome.{HasName}
use Rattle.nv_outcome.proofs.CrossLaw.{names_directory}
use Rattle.nv_graph.specs.Graph.{Node, Graph}
use Rattle.nv_graph.specs.Calls.{SameGraph}
use Rattle.nv_graph.specs.Read.{IsGraphOf}
use Rattle.nv_graph.specs.Step.{SameInode}
use Rattle.nv_graph.proofs.OfRows.{mapped}

-- a number's node and names
pub record ShowsAt (R : Region) (l : Layout) (j : ℕ) (o : Option Node) (names : List ℕ → Option ℕ) : Type 0 where
  pub node : (a : ℕ) (log : Log) → IsInode R l j a log → o ≡ Some (record { kind = log.kind; links = links_of (good_of l log) })
  pub in_use : (n : Node) → o ≡ Some n → IsInUse R l j
  pub name : (name : List ℕ) (i at : ℕ) → HasName R l j name i at → names name ≡ Some i
  pub named : (name : List ℕ) (i : ℕ) → names name ≡ Some i → (at : ℕ) × HasName R l j name i at

pub graph_at : {R : Region} {l : Layout} {g : Graph} → IsGraphOf R l g → (j : ℕ) → ShowsAt R l j (g.node j) (g.name j)
graph_at is j = record { node = is.node j; in_use = is.in_use j; name = is.name j; named = is.named j }

pub at_graph : {R : Region} {l : Layout} {g : Graph} → ((j : ℕ) → ShowsAt R l j (g.node j) (g.name j)) → IsGraphOf R l g
at_graph at = record { node = λ i. (at i).node; in_use = λ i. (at i).in_use; name = λ d. (at d).name; named = λ d. (at d).named }

abbrev pub node_of : Layout → Log → Node
node_of l log = record { kind = log.kind; links = links_of (good_of l log) }

abbrev pub inode_of : ℕ × ℕ → ℕ
inode_of x = x.0

-- what a name stands for by good entries
abbrev pub names_by : List Placed → List ℕ → Option ℕ
names_by good name = option_map inode_of (named good name)

pub shows_by : {R : Region} {l : Layout} {j : ℕ} {o p : Option Node} {names others : List ℕ → Option ℕ} → ShowsAt R l j o names → o ≡ p → ((name : List ℕ) → names name ≡ others name) → ShowsAt R l j p others
shows_by s e f = record {
  node = λ a log h. sym e ∙ s.node a log h;
  in_use = λ n q. s.in_use n (e ∙ q);
  name = λ name i at h. sym (f name) ∙ s.name name i at h;
  named = λ name i q. s.named name i (f name ∙ q);
}

-- an inode in use, by its log
pub log_shows : {R : Region} {l : Layout} {j a : ℕ} {log : Log} → IsInode R l j a log → ShowsAt R l j (Some (node_of l log)) (names_by (good_of l log))
log_shows {R} {l} {j} {a} {log} is = record {
  node = λ b other h. ap (λ (v : Log). Some (node_of l v)) ((IsInode-only is h).1);
  in_use = λ n q. (a, log, is);
  name = λ name i at h. (
      let same = (IsInode-only is h.2).1 in
      ap (λ (v : Log). names_by (good_of l v) name) same ∙ ap (option_map inode_of) h.4);
  named = λ name i q. (
      let m = mapped inode_of (named (good_of l log) name) i q in
      let says : named (good_of l log) name ≡ Some (i, m.0.1) = m.1 ∙ ap (λ (k : ℕ). Some (k, m.0.1)) m.2 in
      (m.0.1, (a, log, is, names_directory l log name (i, m.0.1) says, says)));
}

pub unused_shows : {R : Region} {l : Layout} {j : ℕ} → (IsInUse R l j → ⊥) → ShowsAt R l j None (λ name. None)
unused_shows out = record {
  node = λ a log h. absurd (out (a, log, h));
  in_use = λ n q. absurd (none-some n q);
  name = λ name i at h. absurd (out (h.0, h.1, h.2));
  named = λ name i q. absurd (none-some i q);
}

option_same : {A : Type 0} (o p : Option A) → ((k : A) → o ≡ Some k → p ≡ Some k) → ((k : A) → p ≡ Some k → o ≡ Some k) → o ≡ p
option_same None None f b = refl
option_same None (Some k) f b = b k refl
option_same (Some k) p f b = sym (f k refl)

-- a number's names are those of its log
pub names_are : {R : Region} {l : Layout} {j a : ℕ} {log : Log} {o : Option Node} {names : List ℕ → Option ℕ} → ShowsAt R l j o names → IsInode R l j a log → (name : List ℕ) → names name ≡ names_by (good_of l log) name
names_are {R} {l} {j} {a} {log} {o} {names} s is name = option_same (names name) (names_by (good_of l log) name)
    (λ k e. (let w = s.named name k e in (log_shows is).name name k w.0 w.1))
    (λ k e. (let w = (log_shows is).named name k e in s.name name k w.0 w.1))

pub unused_is : {R : Region} {l : Layout} {j : ℕ} {o : Option Node} {names : List ℕ → Option ℕ} → ShowsAt R l j o names → (IsInUse R l j → ⊥) → (o ≡ None) × ((name : List ℕ) → names name ≡ None)
unused_is {R} {l} {j} {o} {names} s out = (none o (λ n e. out (s.in_use n e)), λ name. none (names name) (λ i e. (let h = (s.named name i e).1 in out (h.0, h.1, h.2)))) where
  none : {A : Type 0} (o : Option A) → ((x : A) → o ≡ Some x → ⊥) → o ≡ None
  none o f = option_same o None (λ x e. absurd (f x e)) (λ x e. absurd (none-some x e))

pub same_shows : {R S : Region} {l : Layout} {j : ℕ} {o : Option Node} {names : List ℕ → Option ℕ} → SameInode R S l j → ShowsAt R l j o names → ShowsAt S l j o names
same_shows same s = record {
  node = λ a log h. s.node a log ((same a log).1 h);
  in_use = λ n q. (let u = s.in_use n q in (u.0, u.1, (same u.0 u.1).0 u.2));
  name = λ name i at h. s.name name i at (h.0, h.1, (same h.0 h.1).1 h.2, h.3, h.4);
  named = λ name i q. (let w = s.named name i q in let h = w.1 in (w.0, (h.0, h.1, (same h.0 h.1).0 h.2, h.3, h.4)));
}

-- a region has one graph
pub only_graph : {R : Region} {l : Layout} {g h : Graph} → IsGraphOf R l g → IsGraphOf R l h → SameGraph g h
only_graph {R} {l} {g} {h} p q = record {
  node = λ i. option_same (h.node i) (g.node i)
      (λ n e. (let u = q.in_use i n e in p.node i u.0 u.1 u.2 ∙ sym (q.node i u.0 u.1 u.2) ∙ e))
      (λ n e. (let u = p.in_use i n e in q.node i u.0 u.1 u.2 ∙ sym (p.node i u.0 u.1 u.2) ∙ e));
  name = λ d name. option_same (h.name d name) (g.name d name)
      (λ i e. (let w = q.named d name i e in p.name d name i w.0 w.1))
      (λ i e. (let w = p.named d name i e in q.name d name i w.0 w.1));
}

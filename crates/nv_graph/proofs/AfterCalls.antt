-- The graph after a call, of what the call leaves of the logs.
use Rattle.std.proofs.Common.{◌≡◌, ◌≢◌, ℕ, ◌+◌, ◌-◌, ◌<◌, ◌≤◌, inl, inr, cond, nat_eq, Option, Some, None, List, refl, ap, sym, ◌∙◌, subst, arith}
use Rattle.std.specs.Prelude.{◌&&◌, Bool}
use Rattle.std.specs.Cmp.Lexicographic.{pointwise}
use Rattle.std.proofs.lemmas.Bool.{cases_eq, and_left, cond-false, eq-eqb, ne_eqb}
use Rattle.std.proofs.lemmas.Option.{none-some}
use Rattle.nv_region.specs.Region.{Region}
use Rattle.nv_super.specs.declared.kind.Kind.{Kind}
use Rattle.nv_super.specs.declared.kind.Kind.TheVariants.{File, Directory}
use Rattle.nv_super.specs.Layout.{Layout, most_links}
use Rattle.nv_super.proofs.Options.{some_is}
use Rattle.nv_entry.specs.declared.entry.Operation.{Operation}
use Rattle.nv_entry.specs.declared.entry.Operation.TheVariants.{Add, Remove}
use Rattle.nv_scan.specs.State.{links_of}
use Rattle.nv_scan.specs.Inode.{IsInUse, good_of}
use Rattle.nv_graph.specs.Graph.{Node, Graph, IsOfKind}
use Rattle.nv_graph.specs.Calls.{with_node, with_name, made, linked, unlinked, removed, renamed}
use Rattle.nv_graph.proofs.Names.{node_here, node_other}
use Rattle.nv_graph.proofs.Changes.{other_kind}
use Rattle.nv_graph.specs.Read.{IsGraphOf}
use Rattle.nv_graph.specs.Step.{CreateStep, LinkStep, UnlinkStep, RemoveStep, RenameStep, in_two, in_one, TouchStep, SameInode, IsGoodName, SaysName, SaysLinks}
use Rattle.nv_graph.proofs.Shown.{ShowsAt, graph_at, at_graph, shows_by, unused_shows, unused_is, same_shows}
use Rattle.nv_graph.proofs.GoodEntries.{links_small, name_good}
use Rattle.nv_graph.proofs.MoreEntries.{target, name_shows, move_shows, links_shows, new_shows, quiet_shows}

-- the names of the directory that is changed, and of all others
names_at : (g : Graph) (d : ℕ) (name : List ℕ) (o : Option ℕ) (q : List ℕ) → (with_name g d name o).name d q ≡ cond (pointwise nat_eq q name) o (g.name d q)
names_at g d name o q = ap (λ (t : Bool). cond (t && pointwise nat_eq q name) o (g.name d q)) (eq-eqb d d refl)

names_else : (g : Graph) (d : ℕ) (name : List ℕ) (o : Option ℕ) (e : ℕ) → e ≢ d → (q : List ℕ) → (with_name g d name o).name e q ≡ g.name e q
names_else g d name o e ne q = cond-false (nat_eq e d && pointwise nat_eq q name) o (g.name e q) (and_left (nat_eq e d) (pointwise nat_eq q name) (ne_eqb e d ne))

-- the names of a directory that neither loses nor gets one
renamed_else : (g : Graph) (d : ℕ) (name : List ℕ) (e : ℕ) (new : List ℕ) (i j : ℕ) → j ≢ d → j ≢ e → (q : List ℕ) → (renamed g d name e new i).name j q ≡ g.name j q
renamed_else g d name e new i j nd ne q = names_else (with_name g d name None) e new (Some i) j ne q ∙ names_else g d name None j nd q

kind_of : (g : Graph) (d : ℕ) (k : Kind) → IsOfKind g d k → (n : Node) → g.node d ≡ Some n → n.kind ≡ k
kind_of g d k m n e = ap (λ (u : Node). u.kind) (some_is n m.0 (g.node d) e m.1) ∙ m.2

apart_kinds : (g : Graph) (i d : ℕ) (n : Node) → g.node i ≡ Some n → n.kind ≡ File → IsOfKind g d Directory → i ≢ d
apart_kinds g i d n is file dir e = other_kind g i n is file (subst (λ (j : ℕ). IsOfKind g j Directory) (sym e) dir)

module _ {R : Region} {l : Layout} {g : Graph} (is : IsGraphOf R l g) where
  -- what isn't in use has no node
  pub unused_node : (i : ℕ) → (IsInUse R l i → ⊥) → g.node i ≡ None
  unused_node i out = (unused_is (graph_at is i) out).0

  -- a directory's name
  directory : (d : ℕ) (name : List ℕ) (i : ℕ) → g.name d name ≡ Some i → IsOfKind g d Directory
  directory d name i e = let w = (is.named d name i e).1 in (record { kind = w.1.kind; links = links_of (good_of l w.1) }, is.node d w.0 w.1 w.2, w.3)

  named_good : (d : ℕ) (name : List ℕ) (i : ℕ) → g.name d name ≡ Some i → IsGoodName l.sup i name
  named_good d name i e = let w = is.named d name i e in name_good R l d name i w.0 w.1

  -- a file has no names
  pub file_empty : (i : ℕ) (n : Node) → g.node i ≡ Some n → n.kind ≡ File → (q : List ℕ) → g.name i q ≡ None
  file_empty i n e file q = test (g.name i q) refl where
    test : (o : Option ℕ) → g.name i q ≡ o → o ≡ None
    test None h = refl
    test (Some k) h = absurd (other_kind g i n e file (directory i q k h))

  -- a link count is small
  small : (i : ℕ) (n : Node) → g.node i ≡ Some n → n.links ≤ most_links
  small i n e =
      let u = is.in_use i n e in
      let same = some_is _ n (g.node i) (is.node i u.0 u.1 u.2) e in
      subst (λ (m : Node). m.links ≤ most_links) same (links_small l.sup u.1.kind u.1.entries)

module _ {R S : Region} {l : Layout} {g : Graph} (is : IsGraphOf R l g) where
  pub same_graph : ((j : ℕ) → SameInode R S l j) → IsGraphOf S l g
  same_graph same = at_graph (λ j. same_shows (same j) (graph_at is j))

  pub touch_graph : (i : ℕ) → TouchStep R S l i → IsGraphOf S l g
  touch_graph i s = at_graph (λ j. elim (cases_eq j i) [
    | inl w ↦ subst (λ (k : ℕ). ShowsAt S l k (g.node k) (g.name k)) (sym w) (quiet_shows s.more (graph_at is i) s.quiet s.grows)
    | inr w ↦ same_shows (s.others j w) (graph_at is j)
  ])

  -- what S shows of two numbers, where it shows all others as R does
  in_turn : (h : Graph) (i d : ℕ) → ShowsAt S l i (h.node i) (h.name i) → ShowsAt S l d (h.node d) (h.name d)
      → ((j : ℕ) → j ≢ i → j ≢ d → SameInode R S l j × (g.node j ≡ h.node j) × ((q : List ℕ) → g.name j q ≡ h.name j q)) → IsGraphOf S l h
  in_turn h i d at_i at_d others = at_graph (λ j. elim (cases_eq j i) [
    | inl w ↦ subst (λ (k : ℕ). ShowsAt S l k (h.node k) (h.name k)) (sym w) at_i
    | inr w ↦ elim (cases_eq j d) [
      | inl v ↦ subst (λ (k : ℕ). ShowsAt S l k (h.node k) (h.name k)) (sym v) at_d
      | inr v ↦ (let same = others j w v in shows_by (same_shows same.0 (graph_at is j)) same.1 same.2)
    ]
  ])

  -- node i changes, which keeps its names, and one name of directory d
  changed_graph : (i : ℕ) (p : Option Node) (d : ℕ) (name : List ℕ) (o : Option ℕ) → i ≢ d → ((j : ℕ) → j ≢ i → j ≢ d → SameInode R S l j)
      → ShowsAt S l i p (g.name i) → ShowsAt S l d (g.node d) (λ q. cond (pointwise nat_eq q name) o (g.name d q)) → IsGraphOf S l (with_name (with_node g i p) d name o)
  changed_graph i p d name o apart others at_i at_d = in_turn (with_name mid d name o) i d
      (shows_by at_i (sym (node_here g i p)) (λ q. sym (names_else mid d name o i apart q)))
      (shows_by at_d (sym (node_other g i p d (λ e. apart (sym e)))) (λ q. sym (names_at mid d name o q)))
      (λ j ne nd. (others j ne nd, sym (node_other g i p j ne), λ q. sym (names_else mid d name o j nd q))) where
        mid : Graph
        mid = with_node g i p

  -- directory d says a name more or less
  said : (d : ℕ) (operation : Operation) (i : ℕ) (name : List ℕ) → IsOfKind g d Directory → IsGoodName l.sup i name → SaysName R S l d operation name i
      → ShowsAt S l d (g.node d) (λ q. cond (pointwise nat_eq q name) (target operation i) (g.name d q))
  said d operation i name dir good w = name_shows (graph_at is d) w.0 operation i name w.1 good (kind_of g d Directory dir) w.2

  counted : (i : ℕ) (n : Node) (count : ℕ) → g.node i ≡ Some n → n.kind ≡ File → 0 < count → count ≤ most_links → SaysLinks R S l i count
      → ShowsAt S l i (Some (record { kind = n.kind; links = count })) (g.name i)
  counted i n count e file some few w = links_shows (shows_by (graph_at is i) e (λ q. refl)) file w.0 count w.1 some few w.2

  pub create_graph : (kind : Kind) (d : ℕ) (name : List ℕ) (i : ℕ) → IsOfKind g d Directory → CreateStep R S l kind d name i → IsGraphOf S l (made g kind d name i)
  create_graph kind d name i dir s = changed_graph i (Some (record { kind = kind; links = 1 })) d name (Some i) apart s.others
      (let a = s.attributes in shows_by (new_shows kind a.0 a.1 s.is s.of_kind a.2) refl (λ q. sym (none.1 q)))
      (said d Add i name dir s.good s.parent) where
        none : (g.node i ≡ None) × ((q : List ℕ) → g.name i q ≡ None)
        none = unused_is (graph_at is i) s.unused

        apart : i ≢ d
        apart e = none-some dir.0 (sym none.0 ∙ subst (λ (j : ℕ). g.node j ≡ Some dir.0) (sym e) dir.1)

  pub link_graph : (d : ℕ) (name : List ℕ) (i : ℕ) (n : Node) → IsOfKind g d Directory → g.node i ≡ Some n → n.kind ≡ File → LinkStep R S l d name i n → IsGraphOf S l (linked g d name i n)
  link_graph d name i n dir e file s = let m = s.limit in
      changed_graph i (Some (record { kind = n.kind; links = n.links + 1 })) d name (Some i) (apart_kinds g i d n e file dir) s.others
      (counted i n (n.links + 1) e file (omega arith) (omega (arith, m)) s.file)
      (said d Add i name dir s.good s.parent)

  pub unlink_graph : (d : ℕ) (name : List ℕ) (i : ℕ) (n : Node) → g.node i ≡ Some n → n.kind ≡ File → 1 < n.links → g.name d name ≡ Some i → UnlinkStep R S l d name i n → IsGraphOf S l (unlinked g d name i n)
  unlink_graph d name i n e file more named s = let m = small is i n e in let dir = directory is d name i named in
      changed_graph i (Some (record { kind = n.kind; links = n.links - 1 })) d name None (apart_kinds g i d n e file dir) s.others
      (counted i n (n.links - 1) e file (omega (arith, more)) (omega (arith, m)) s.file)
      (said d Remove i name dir (named_good is d name i named) s.parent)

  pub remove_graph : (d : ℕ) (name : List ℕ) (i : ℕ) → g.name d name ≡ Some i → ((q : List ℕ) → g.name i q ≡ None) → RemoveStep R S l d name i → IsGraphOf S l (removed g d name i)
  remove_graph d name i named empty s = changed_graph i None d name None apart s.others
      (shows_by (unused_shows s.unused) refl (λ q. sym (empty q)))
      (said d Remove i name (directory is d name i named) (named_good is d name i named) s.parent) where
        apart : i ≢ d
        apart e = none-some i (sym (empty name) ∙ subst (λ (j : ℕ). g.name j name ≡ Some i) (sym e) named)

  pub rename_graph : (d : ℕ) (name : List ℕ) (e : ℕ) (new : List ℕ) (i : ℕ) → IsOfKind g e Directory → g.name d name ≡ Some i → RenameStep R S l d name e new i → IsGraphOf S l (renamed g d name e new i)
  rename_graph d name e new i dir named (in_two apart others from to good_new) = in_turn (renamed g d name e new i) d e
      (shows_by (said d Remove i name (directory is d name i named) (named_good is d name i named) from) refl
      (λ q. sym (names_else (with_name g d name None) e new (Some i) d apart q ∙ names_at g d name None q)))
      (shows_by (said e Add i new dir good_new to) refl
      (λ q. sym (names_at (with_name g d name None) e new (Some i) q ∙ ap (cond (pointwise nat_eq q new) (Some i)) (names_else g d name None e (λ w. apart (sym w)) q))))
      (λ j nd ne. (others j nd ne, refl, λ q. sym (renamed_else g d name e new i j nd ne q)))
  rename_graph d name e new i dir named (in_one at next time same others both good_new) =
      subst (λ (f : ℕ). IsGraphOf S l (renamed g d name f new i)) same (in_turn (renamed g d name d new i) d d here here
      (λ j nd ne. (others j nd, refl, λ q. sym (renamed_else g d name d new i j nd nd q)))) where
        here : ShowsAt S l d (g.node d) ((renamed g d name d new i).name d)
        here = shows_by (move_shows (graph_at is d) at next i name new time (named_good is d name i named) good_new (kind_of g d Directory (directory is d name i named)) both) refl
            (λ q. sym (names_at (with_name g d name None) d new (Some i) q ∙ ap (cond (pointwise nat_eq q new) (Some i)) (names_at g d name None q)))

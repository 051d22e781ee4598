-- What a changed inode makes of the graph of what is held.
use Rattle.std.proofs.Common.{◌≡◌, ℕ, ◌==◌, ◌<◌, ◌≤◌, true, false, cond, nat_eq, inl, inr, List, [], ◌∷◌, ◌++◌, refl, ap, sym, ◌∙◌, Option, Some, None, append_assoc}
use Rattle.std.specs.List.{All}
use Rattle.std.specs.Option.{option_map, option_and_then}
use Rattle.std.specs.Cmp.Lexicographic.{pointwise}
use Rattle.std.proofs.lemmas.Bool.Decides.{eqb_tells}
use Rattle.std.proofs.lemmas.List.Elements.{All-contains}
use Rattle.nv_super.specs.declared.kind.Kind.{Kind}
use Rattle.nv_super.specs.declared.kind.Kind.TheVariants.{File, Directory}
use Rattle.nv_super.specs.Layout.{Layout}
use Rattle.nv_entry.specs.declared.entry.AttrEntry.{AttrEntry}
use Rattle.nv_entry.specs.declared.entry.Operation.{Operation}
use Rattle.nv_entry.specs.declared.entry.Operation.TheVariants.{Add, Remove}
use Rattle.nv_entry.specs.declared.entry.Entry.TheVariants as entries
use Rattle.nv_logpage.specs.declared.found.Placed.{Placed}
use Rattle.nv_logpage.specs.Reads.{placed}
use Rattle.nv_logpage.specs.Good.{good_entries}
use Rattle.nv_scan.specs.State.{named, links_of, says_name, says_links}
use Rattle.nv_scan.proofs.Words.{word-more}
use Rattle.nv_scan.proofs.KindsApart.{file_names}
use Rattle.nv_graph.specs.Graph.{Node}
use Rattle.nv_graph.specs.Calls.{with_node, with_name, is_name, SameGraph}
use Rattle.nv_graph.specs.Step.{name_entry, links_entry, IsGoodName, IsQuiet}
use Rattle.nv_graph.proofs.Shown.{inode_of, names_by}
use Rattle.nv_graph.proofs.GoodEntries.{good_links}
use Rattle.nv_graph.proofs.MoreEntries.{target, name_more, links_kept, quiet_entry, quiet_entries}
use Rattle.nv_mounted.specs.Held.{Held, Store, with_inode, good_in}
use Rattle.nv_mounted.specs.Graph.{node_in, target_in, graph_in}
use Rattle.nv_mounted.specs.Grows.{grown, SameNames}

-- ---- a graph with one number changed

-- what is said of a number, once one is changed
by_number : {X : Type 0} (f : Option Held → X) (held : Store) (i : ℕ) (o : Option Held) (j : ℕ) → f (with_inode held i o j) ≡ cond (j == i) (f o) (f (held j))
by_number f held i o j = elim (j == i) as (λ b. f (cond b o (held j)) ≡ cond b (f o) (f (held j))) [ true ↦ refl | false ↦ refl ]

-- a number at which nothing changes
still_there : {X : Type 0} (f : ℕ → X) (i : ℕ) (x : X) → x ≡ f i → (j : ℕ) → cond (j == i) x (f j) ≡ f j
still_there f i x same j = elim (eqb_tells j i) [ inl w ↦ rw w.0 (same ∙ ap f (sym w.1)) | inr w ↦ rw w.0 refl ]

-- one name changed
by_name : (f : ℕ → List ℕ → Option ℕ) (d : ℕ) (name : List ℕ) (o : Option ℕ) (e : ℕ) (q : List ℕ) → cond (e == d) (cond (pointwise nat_eq q name) o (f d q)) (f e q) ≡ cond (is_name d name e q) o (f e q)
by_name f d name o e q = elim (eqb_tells e d) [ inl w ↦ rw w.0 (ap (λ (x : ℕ). cond (pointwise nat_eq q name) o (f x q)) (sym w.1)) | inr w ↦ rw w.0 refl ]

module _ (l : Layout) (held : Store) (i : ℕ) (o : Option Held) where
  -- where the names stay
  node_changes : (p : Option Node) → option_map (node_in l) o ≡ p → ((q : List ℕ) → option_and_then (target_in l q) o ≡ (graph_in l held).name i q)
      → SameGraph (with_node (graph_in l held) i p) (graph_in l (with_inode held i o))
  node_changes p node names = record {
    node = λ j. by_number (option_map (node_in l)) held i o j ∙ ap (λ (x : Option Node). cond (j == i) x ((graph_in l held).node j)) node;
    name = λ d q. by_number (option_and_then (target_in l q)) held i o d ∙ still_there (λ (e : ℕ). (graph_in l held).name e q) i (option_and_then (target_in l q) o) (names q) d;
  }

  -- where the node stays
  names_change : (name : List ℕ) (t : Option ℕ) → option_map (node_in l) o ≡ (graph_in l held).node i
      → ((q : List ℕ) → option_and_then (target_in l q) o ≡ cond (pointwise nat_eq q name) t ((graph_in l held).name i q))
      → SameGraph (with_name (graph_in l held) i name t) (graph_in l (with_inode held i o))
  names_change name t node names = record {
    node = λ j. by_number (option_map (node_in l)) held i o j ∙ still_there (graph_in l held).node i (option_map (node_in l) o) node j;
    name = λ d q. by_number (option_and_then (target_in l q)) held i o d
        ∙ ap (λ (x : Option ℕ). cond (d == i) x ((graph_in l held).name d q)) (names q) ∙ by_name (graph_in l held).name i name t d q;
  }

  -- where both stay
  all_stays : option_map (node_in l) o ≡ (graph_in l held).node i → ((q : List ℕ) → option_and_then (target_in l q) o ≡ (graph_in l held).name i q)
      → SameGraph (graph_in l held) (graph_in l (with_inode held i o))
  all_stays node names = record {
    node = λ j. by_number (option_map (node_in l)) held i o j ∙ still_there (graph_in l held).node i (option_map (node_in l) o) node j;
    name = λ d q. by_number (option_and_then (target_in l q)) held i o d ∙ still_there (λ (e : ℕ). (graph_in l held).name e q) i (option_and_then (target_in l q) o) (names q) d;
  }

-- ---- an inode that was in use

module _ (l : Layout) (held : Store) (i : ℕ) (h : Held) (is : held i ≡ Some h) where
  node_was : (graph_in l held).node i ≡ Some (node_in l h)
  node_was = ap (option_map (node_in l)) is

  name_was : (q : List ℕ) → (graph_in l held).name i q ≡ target_in l q h
  name_was q = ap (option_and_then (target_in l q)) is

  pub touched : (new : Held) → SameNames l h new → SameGraph (graph_in l held) (graph_in l (with_inode held i (Some new)))
  touched new same = all_stays l held i (Some new)
      ((λ k. Some (record { kind = same.kind k; links = same.links k })) ∙ sym node_was)
      (λ q. ap (option_map inode_of) (same.names q) ∙ sym (name_was q))

  -- a name entry at the end
  pub one_name : h.kind ≡ Directory → (tail : ℕ) (fresh : List ℕ) (at : ℕ) (operation : Operation) (j : ℕ) (name : List ℕ) (time : ℕ) → IsGoodName l.sup j name
      → SameGraph (with_name (graph_in l held) i name (target operation j)) (graph_in l (with_inode held i (Some (grown h tail (name_entry at operation j name time ∷ []) fresh))))
  one_name directory tail fresh at operation j name time good = names_change l held i (Some (grown h tail (name_entry at operation j name time ∷ []) fresh)) name (target operation j)
      (ap (λ (n : ℕ). Some (record { kind = h.kind; links = n })) (links_kept l.sup h.kind h.entries at operation j name time) ∙ sym node_was)
      (λ q. ap (λ (k : Kind). names_by (good_entries l.sup k (h.entries ++ name_entry at operation j name time ∷ [])) q) directory
      ∙ name_more l.sup h.entries at operation j name time good q
      ∙ ap (cond (pointwise nat_eq q name) (target operation j)) (ap (λ (k : Kind). names_by (good_entries l.sup k h.entries) q) (sym directory) ∙ sym (name_was q)))

  -- a name entry that removes and one that adds
  module _ (directory : h.kind ≡ Directory) (tail : ℕ) (fresh : List ℕ) (at next j : ℕ) (name other : List ℕ) (time : ℕ) (good : IsGoodName l.sup j name) (good_other : IsGoodName l.sup j other) where
    abbrev moved_now : Held
    moved_now = grown h tail (name_entry at Remove j name time ∷ name_entry next Add j other time ∷ []) fresh

    abbrev mid : List Placed
    mid = h.entries ++ name_entry at Remove j name time ∷ []

    split : moved_now.entries ≡ mid ++ name_entry next Add j other time ∷ []
    split = sym (append_assoc h.entries (name_entry at Remove j name time ∷ []) (name_entry next Add j other time ∷ []))

    moved_node : Some (node_in l moved_now) ≡ (graph_in l held).node i
    moved_node = ap (λ (n : ℕ). Some (record { kind = h.kind; links = n }))
        (ap (λ (es : List Placed). links_of (good_entries l.sup h.kind es)) split ∙ links_kept l.sup h.kind mid next Add j other time ∙ links_kept l.sup h.kind h.entries at Remove j name time) ∙ sym node_was

    moved_names : (q : List ℕ) → target_in l q moved_now ≡ cond (pointwise nat_eq q other) (Some j) (cond (pointwise nat_eq q name) None ((graph_in l held).name i q))
    moved_names q =
        ap (λ (es : List Placed). names_by (good_entries l.sup h.kind es) q) split
        ∙ ap (λ (k : Kind). names_by (good_entries l.sup k (mid ++ name_entry next Add j other time ∷ [])) q) directory
        ∙ name_more l.sup mid next Add j other time good_other q
        ∙ ap (cond (pointwise nat_eq q other) (Some j)) (name_more l.sup h.entries at Remove j name time good q)
        ∙ ap (λ (v : Option ℕ). cond (pointwise nat_eq q other) (Some j) (cond (pointwise nat_eq q name) None v)) (ap (λ (k : Kind). names_by (good_entries l.sup k h.entries) q) (sym directory) ∙ sym (name_was q))

    two_names : (d : ℕ) (q : List ℕ) → cond (d == i) (cond (pointwise nat_eq q other) (Some j) (cond (pointwise nat_eq q name) None ((graph_in l held).name i q))) ((graph_in l held).name d q)
        ≡ cond (is_name i other d q) (Some j) (cond (is_name i name d q) None ((graph_in l held).name d q))
    two_names d q = elim (eqb_tells d i) [
      | inl w ↦ rw w.0 (ap (λ (x : ℕ). cond (pointwise nat_eq q other) (Some j) (cond (pointwise nat_eq q name) None ((graph_in l held).name x q))) (sym w.1))
      | inr w ↦ rw w.0 refl
    ]

    pub moved : SameGraph (with_name (with_name (graph_in l held) i name None) i other (Some j)) (graph_in l (with_inode held i (Some moved_now)))
    moved = record {
      node = λ d. by_number (option_map (node_in l)) held i (Some moved_now) d ∙ still_there (graph_in l held).node i (Some (node_in l moved_now)) moved_node d;
      name = λ d q. by_number (option_and_then (target_in l q)) held i (Some moved_now) d ∙ ap (λ (x : Option ℕ). cond (d == i) x ((graph_in l held).name d q)) (moved_names q) ∙ two_names d q;
    }

  -- a links entry at the end
  pub linked_to : h.kind ≡ File → (tail : ℕ) (fresh : List ℕ) (at count time : ℕ) → 0 < count → count ≤ 1000
      → SameGraph (with_node (graph_in l held) i (Some (record { kind = h.kind; links = count }))) (graph_in l (with_inode held i (Some (grown h tail (links_entry at count time ∷ []) fresh))))
  linked_to file tail fresh at count time some few = node_changes l held i (Some (grown h tail (links_entry at count time ∷ []) fresh)) (Some (record { kind = h.kind; links = count }))
      (ap (λ (k : Kind). Some (record { kind = h.kind; links = links_of (good_entries l.sup k (h.entries ++ links_entry at count time ∷ [])) })) file
      ∙ ap (λ (n : ℕ). Some (record { kind = h.kind; links = n })) (word-more says_links 1 l.sup File h.entries (links_entry at count time) true (good_links l.sup at count time some few)))
      (λ q. ap (option_map inode_of) (quiet_entry (says_name q) None l.sup h.kind h.entries (links_entry at count time) refl) ∙ sym (name_was q))

  -- it went, without names in it
  pub went : ((q : List ℕ) → (graph_in l held).name i q ≡ None) → SameGraph (with_node (graph_in l held) i None) (graph_in l (with_inode held i None))
  went none = node_changes l held i None None refl (λ q. sym (none q))

  -- a file has none
  pub file_went : h.kind ≡ File → SameGraph (with_node (graph_in l held) i None) (graph_in l (with_inode held i None))
  file_went file = went (λ q. name_was q ∙ ap (λ (k : Kind). names_by (good_entries l.sup k h.entries) q) file ∙ ap (option_map inode_of) (file_names l.sup h.entries q))

-- ---- a new inode

module _ (l : Layout) (held : Store) (i : ℕ) (new : Held) (out : held i ≡ None) where
  name_none : (q : List ℕ) → None ≡ (graph_in l held).name i q
  name_none q = sym (ap (option_and_then (target_in l q)) out)

  pub came : ((q : List ℕ) → named (good_in l new) q ≡ None) → SameGraph (with_node (graph_in l held) i (Some (node_in l new))) (graph_in l (with_inode held i (Some new)))
  came none = node_changes l held i (Some new) (Some (node_in l new)) refl (λ q. ap (option_map inode_of) (none q) ∙ name_none q)

  -- its log is one attributes entry
  pub attributes_came : (at : ℕ) (e : AttrEntry) → new.entries ≡ placed at (entries.Attr e) ∷ []
      → SameGraph (with_node (graph_in l held) i (Some (record { kind = new.kind; links = 1 }))) (graph_in l (with_inode held i (Some new)))
  attributes_came at e one = node_changes l held i (Some new) (Some (record { kind = new.kind; links = 1 }))
      (ap (λ (es : List Placed). Some (record { kind = new.kind; links = links_of (good_entries l.sup new.kind es) })) one
      ∙ ap (λ (n : ℕ). Some (record { kind = new.kind; links = n })) (quiet_entry says_links 1 l.sup new.kind [] (placed at (entries.Attr e)) refl))
      (λ q. ap (λ (es : List Placed). names_by (good_entries l.sup new.kind es) q) one
      ∙ ap (option_map inode_of) (quiet_entry (says_name q) None l.sup new.kind [] (placed at (entries.Attr e)) refl) ∙ name_none q)

-- ---- entries more that say nothing of names and links

pub quiet_grown : (l : Layout) (h : Held) (tail : ℕ) (more : List Placed) (fresh : List ℕ) → All IsQuiet more → SameNames l h (grown h tail more fresh)
quiet_grown l h tail more fresh quiet = record {
  kind = refl;
  names = λ q. quiet_entries (says_name q) None l.sup h.kind h.entries more (λ x c. (All-contains IsQuiet more x quiet c).name q);
  links = quiet_entries says_links 1 l.sup h.kind h.entries more (λ x c. (All-contains IsQuiet more x quiet c).links);
}

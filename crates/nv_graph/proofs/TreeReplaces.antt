-- What `replace` makes of the graph of a tree, where its tests refuse nothing.
use Rattle.std.proofs.Common.{◌≡◌, ◌≢◌, ℕ, ◌-◌, ◌<◌, ◌≤◌, inl, inr, ◌⊎◌, Bool, true, false, not, cond, nat_eq, nat_lt, List, ◌∷◌, Option, Some, None, refl, sym, ◌∙◌, ap, subst}
use Rattle.std.specs.Prelude.{◌&&◌, eqb}
use Rattle.std.proofs.Math.Dec.{leb}
use Rattle.std.specs.List.{Contains}
use Rattle.std.specs.Option.{option_map_or}
use Rattle.std.proofs.lemmas.Bool.{cases_eq, eq-eqb, ne_eqb}
use Rattle.std.proofs.lemmas.Bool.Decides.{leb_tells}
use Rattle.std.proofs.lemmas.Option.{none-some}
use Rattle.nv_super.specs.declared.kind.Kind.TheVariants.{File, Directory}
use Rattle.nv_tree.specs.Path.{last_name}
use Rattle.nv_tree.specs.Tree as trees
use Rattle.nv_tree.specs.Tree.{Tree, found, is_directory, name_in}
use Rattle.nv_tree.specs.Laws.{SetsName}
use Rattle.nv_tree.specs.Replace as replaces
use Rattle.nv_tree.specs.Replace.{Replaces, are_one, replace_tests}
use Rattle.nv_tree.specs.Refusals.{World, count_at, first_refusal, is_directory_at}
use Rattle.nv_tree.proofs.Cuts.{last_stood}
use Rattle.nv_tree.proofs.Replaced.{beside, directory_gone, last_gone, more_left, refused_as_rename, replaced_names, replaced_one, replaced_unused}
use Rattle.nv_graph.specs.Graph.{Node, Graph, IsOfKind}
use Rattle.nv_graph.specs.Graph as graph
use Rattle.nv_graph.specs.Calls.{SameGraph, is_name, replaced, with_name}
use Rattle.nv_graph.specs.Trees.{CountsNames, IsFaultless, node_of, tree_graph}
use Rattle.nv_graph.proofs.Changes.{directory_removed_sound, file_leaf, last_removed_sound, unlinked_sound}
use Rattle.nv_graph.proofs.Passed.{Replacing, directory_kind, file_kind, replacing}
use Rattle.nv_graph.proofs.Replaced.{replaced_faultless}
use Rattle.nv_graph.proofs.Root.{same_faultless}
use Rattle.nv_graph.proofs.TreeCalls.{clear_of, links_are, node_at, of_sound, rename_keeps, uncounted}
use Rattle.nv_graph.proofs.TreeGraphs.{set_names, shown}
use Rattle.nv_graph.proofs.Ways.{walked_there, way_to}

module _ (t : Tree) (f : IsFaultless t) (counts : CountsNames t) (time : ℕ) where
  abbrev g : Graph
  g = tree_graph t

  -- ---- another inode's place

  module _ (first : List ℕ) (rest : List (List ℕ)) (next : List ℕ) (others : List (List ℕ)) (i j d e : ℕ) (r : Replaces t (first ∷ rest) (next ∷ others) i j d e)
      (clear : IsOfKind g i Directory → Contains (graph.passed g 1 (way_to (next ∷ others))) i → ⊥) where
    abbrev old_name : List ℕ
    old_name = last_name (first ∷ rest)

    abbrev new_name : List ℕ
    new_name = last_name (next ∷ others)

    abbrev u : Tree
    u = replaces.replaced (first ∷ rest) (next ∷ others) time t

    old_stood : name_in t d old_name ≡ Some i
    old_stood = (last_stood t first rest d i r.from r.moved).1

    new_stood : name_in t e new_name ≡ Some j
    new_stood = (last_stood t next others e j r.way r.there).1

    leads : graph.walked g 1 (way_to (next ∷ others)) ≡ Some e
    leads = walked_there g t (λ k q. refl) 1 e next others r.way

    -- The graph, where this is left of the inode that was there.
    same_as : (left : Option Node) → shown (u j) ≡ left → SameGraph (replaced g d old_name e new_name i j left) (tree_graph u)
    same_as left there = record { node = nodes; name = names } where
      nodes : (k : ℕ) → shown (u k) ≡ cond (nat_eq k j) left (shown (t k))
      nodes k = by (cases_eq k j) where
        by : (k ≡ j) ⊎ (k ≡ j → ⊥) → shown (u k) ≡ cond (nat_eq k j) left (shown (t k))
        by (inl is) = ap (λ n. shown (u n)) is ∙ there ∙ sym (ap (λ b. cond b left (shown (t k))) (eq-eqb k j is))
        by (inr ne) = beside time r node_of (λ q m stamp a. refl) (λ q stamp a. refl) k ne ∙ sym (ap (λ b. cond b left (shown (t k))) (ne_eqb k j ne))

      all : (gone : Tree) × (without : Tree) × SetsName t e new_name None gone × SetsName gone d old_name None without × SetsName without e new_name (Some i) u
      all = replaced_names time r

      first_cut : Graph
      first_cut = with_name g e new_name None

      both_cut : Graph
      both_cut = with_name first_cut d old_name None

      cut_names : (k : ℕ) (q : List ℕ) → first_cut.name k q ≡ name_in all.0 k q
      cut_names k q = sym (set_names t all.0 g e new_name None all.2 (λ a b. refl) k q)

      both_names : (k : ℕ) (q : List ℕ) → both_cut.name k q ≡ name_in all.1 k q
      both_names k q = sym (set_names all.0 all.1 first_cut d old_name None all.3 cut_names k q)

      names : (k : ℕ) (q : List ℕ) → name_in u k q ≡ (replaced g d old_name e new_name i j left).name k q
      names k q = set_names all.1 u both_cut e new_name (Some i) all.4 both_names k q ∙ over (is_name e new_name k q) (is_name d old_name k q) where
        over : (b c : Bool) → cond b (Some i) (cond c None (cond b None (name_in t k q))) ≡ cond b (Some i) (cond c None (name_in t k q))
        over true c = refl
        over false c = refl

    abbrev there : (a : trees.Node) × (name_in t e new_name ≡ Some j) × (t j ≡ Some a)
    there = last_stood t next others e j r.way r.there

    abbrev node : trees.Node
    node = there.0

    -- a directory goes
    of_directory : is_directory_at t j ≡ true → is_directory node.kind ≡ true → IsFaultless u
    of_directory on kind = same_faultless _ (tree_graph u) (same_as None (ap shown (directory_gone time r on)))
        (replaced_faultless (way_to (next ∷ others)) (of_sound t f) old_stood leads there.1 r.differ clear (λ q k is. none-some k (sym (r.bare q) ∙ is)) None
        (directory_removed_sound g e new_name j (of_sound t f) there.1 (node_of node, node_at t f j node there.2, directory_kind node.kind kind) r.bare))

    -- a file goes, or counts a link less
    of_file : is_directory_at t j ≡ false → node.kind ≡ File → ((leb node.links 1 ≡ true) × (node.links ≤ 1)) ⊎ ((leb node.links 1 ≡ false) × (1 < node.links)) → IsFaultless u
    of_file off file (inl (said, few)) = same_faultless _ (tree_graph u) (same_as None (ap shown (last_gone time r off (subst (λ n. n ≤ 1) (sym (links_are t f j node there.2)) few))))
        (replaced_faultless (way_to (next ∷ others)) (of_sound t f) old_stood leads there.1 r.differ clear (file_leaf (of_sound t f) j (node_of node) (node_at t f j node there.2) file) None
        (last_removed_sound g e new_name j (node_of node) (of_sound t f) there.1 (node_at t f j node there.2) file few))
    of_file off file (inr (said, many)) =
        let left : Option Node = Some (record { kind = node.kind; links = node.links - 1 }) in
        same_faultless _ (tree_graph u) (same_as left (ap shown (more_left time r node off there.2 many)))
        (replaced_faultless (way_to (next ∷ others)) (of_sound t f) old_stood leads there.1 r.differ clear (file_leaf (of_sound t f) j (node_of node) (node_at t f j node there.2) file) left
        (unlinked_sound g e new_name j (node_of node) (of_sound t f) there.1 (node_at t f j node there.2) file many))

    other_keeps : IsFaultless u
    other_keeps = by (is_directory_at t j) refl where
      kind_is : (b : Bool) → is_directory_at t j ≡ b → is_directory node.kind ≡ b
      kind_is b said = ap (λ (o : Option trees.Node). is_directory_at (λ k. o) j) (sym there.2) ∙ said

      by : (b : Bool) → is_directory_at t j ≡ b → IsFaultless u
      by true on = of_directory on (kind_is true on)
      by false off = of_file off (file_kind node.kind (kind_is false off)) (leb_tells node.links 1)

  -- ---- the call

  pub replace_keeps : (w : World) (cpu : ℕ) (old new : List (List ℕ)) (needed : ℕ) → first_refusal (replace_tests w t cpu (Some old) (Some new) needed) ≡ None → IsFaultless (replaces.replaced old new time t)
  replace_keeps w cpu old new needed none = by (found t new) refl where
    c : Replacing t old new
    c = replacing w t cpu old new needed none

    i : ℕ
    i = c.inode

    from_path : List (List ℕ)
    from_path = c.first ∷ c.rest

    to_path : List (List ℕ)
    to_path = c.next ∷ c.others

    is_there : (j : ℕ) → found t new ≡ Some j → found t to_path ≡ Some j
    is_there j led = ap (found t) (sym c.to_is) ∙ led

    moved : found t old ≡ Some i
    moved = ap (found t) c.from_is ∙ c.stands.leads

    of_other : (j : ℕ) → found t new ≡ Some j → i ≢ j → IsFaultless (replaces.replaced from_path to_path time t)
    of_other j led differ = other_keeps c.first c.rest c.next c.others i j c.from c.to replaces_here (clear_of t f i c.stands.node c.stands.used c.next c.others c.past) where
      used : (a : trees.Node) × (name_in t c.to (last_name to_path) ≡ Some j) × (t j ≡ Some a)
      used = last_stood t c.next c.others c.to j c.way (is_there j led)

      apart : are_one t (Some from_path) (Some to_path) ≡ false
      apart =
          ap (λ o. option_map_or (λ k. option_map_or (eqb k) (found t to_path) false) o false) c.stands.leads
          ∙ ap (λ o. option_map_or (eqb i) o false) (is_there j led) ∙ ne_eqb i j differ

      few : nat_lt 0 (count_at t j) ≡ false
      few = ap (λ o. option_map_or (λ k. nat_lt 0 (count_at t k)) o false) (sym (is_there j led))
          ∙ ap (λ b. not b && option_map_or (λ k. nat_lt 0 (count_at t k)) (found t to_path) false) (sym apart) ∙ c.few

      replaces_here : Replaces t from_path to_path i j c.from c.to
      replaces_here = record { from = c.stands.way; way = c.way; moved = c.stands.leads; there = is_there j led; differ = differ; bare = uncounted t f counts j used.0 used.2 few }

    by : (o : Option ℕ) → found t new ≡ o → IsFaultless (replaces.replaced old new time t)
    by None led = subst IsFaultless (sym (replaced_unused t old new time led)) (rename_keeps t f w cpu old new needed time (sym (refused_as_rename w t cpu (Some old) new needed led) ∙ none))
    by (Some j) led = elim (cases_eq i j) [
      | inl one ↦ subst IsFaultless (sym (replaced_one t old new i time moved (led ∙ ap (λ n. Some n) (sym one)))) f
      | inr differ ↦ subst (λ ns. IsFaultless (replaces.replaced ns new time t)) (sym c.from_is) (subst (λ ns. IsFaultless (replaces.replaced from_path ns time t)) (sym c.to_is) (of_other j led differ))
    ]

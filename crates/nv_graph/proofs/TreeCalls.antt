-- What each call makes of the graph of a tree, where its tests refuse nothing.
use Rattle.std.proofs.Common.{◌≡◌, ℕ, ◌+◌, ◌-◌, ◌<◌, ◌≤◌, inl, inr, ◌⊎◌, Bool, true, false, cond, nat_eq, nat_le, nat_lt, List, ◌∷◌, Option, Some, None, Ok, refl, sym, ◌∙◌, ap, subst, arith}
use Rattle.std.specs.Prelude.{◌&&◌}
use Rattle.std.specs.List.{Contains}
use Rattle.std.specs.Option.{option_map}
use Rattle.std.proofs.lemmas.Bool.Decides.{leb_tells}
use Rattle.std.proofs.lemmas.Option.{none-some}
use Rattle.nv_super.specs.declared.kind.Kind.{Kind}
use Rattle.nv_super.specs.declared.kind.Kind.TheVariants.{File, Directory}
use Rattle.nv_super.proofs.Members.{no_member}
use Rattle.nv_tree.specs.Path.{last_name}
use Rattle.nv_tree.specs.Tree as trees
use Rattle.nv_tree.specs.Tree.{Tree, found, in_use, is_directory, name_in, walk}
use Rattle.nv_tree.specs.Calls as calls
use Rattle.nv_tree.specs.Calls.{edit, links_at, new_node, on_ok, on_some, put_node, released, with_links}
use Rattle.nv_tree.specs.Laws.{HasNoNames, SetsName}
use Rattle.nv_tree.specs.Refusals.{World, count_at, create_tests, first_refusal, is_directory_at, link_tests, passes, rename_tests, rmdir_tests, unlink_tests}
use Rattle.nv_tree.proofs.Effects.{created_names, linked_names, removed_names, renamed_names, unlinked_names}
use Rattle.nv_graph.specs.Graph.{Node, Graph, IsOfKind, NoCrossFaults}
use Rattle.nv_graph.specs.Graph as graph
use Rattle.nv_graph.specs.Calls.{SameGraph, linked, made, removed, renamed, unlinked, with_name, with_node}
use Rattle.nv_graph.specs.Trees.{CountsNames, IsFaultless, IsUnused, node_of, tree_graph}
use Rattle.nv_graph.proofs.Changes.{directory_removed_sound, file_leaf, last_removed_sound, linked_sound, made_sound, unlinked_sound}
use Rattle.nv_graph.proofs.Passed.{Creates, Lacks, Links, Names, Removes, Renames, creates, directory_kind, file_kind, links, removes, renames, unlinks}
use Rattle.nv_graph.proofs.Renamed.{renamed_by_path}
use Rattle.nv_graph.proofs.Root.{same_faultless}
use Rattle.nv_graph.proofs.Sound.{Sound, faultless, sound}
use Rattle.nv_graph.proofs.TreeGraphs.{edit_shown, put_shown, set_graph, set_names, shown}
use Rattle.nv_graph.proofs.Ways.{passed_there, walk_directory, walked_there, way_to}

-- ---- where a path leads

module _ (t : Tree) (f : IsFaultless t) where
  abbrev g : Graph
  g = tree_graph t

  pub of_sound : Sound g
  of_sound = sound g f

  -- a node in use
  pub node_at : (i : ℕ) (a : trees.Node) → t i ≡ Some a → g.node i ≡ Some (node_of a)
  node_at i a is = ap shown is

  directory_at : (name : List ℕ) (names : List (List ℕ)) (d : ℕ) → walk t 1 (name ∷ names) ≡ Ok d → IsOfKind g d Directory
  directory_at name names d way = (let w = walk_directory t 1 name names d way in (node_of w.0, node_at d w.0 w.1, directory_kind w.0.kind w.2))

  -- a name on which nothing in use stands isn't there
  absent : (names : List (List ℕ)) (d : ℕ) → Lacks t names d → name_in t d (last_name names) ≡ None
  absent names d lacks = by (name_in t d (last_name names)) refl lacks.unused where
    used : (j : ℕ) (o : Option trees.Node) → t j ≡ o → name_in t d (last_name names) ≡ Some j → in_use t (Some j) ≡ None → ⊥
    used j None is named none = (let n = f.in_use d (last_name names) j named in none-some n.0 (sym (ap shown is) ∙ n.1))
    used j (Some a) is named none = none-some j (sym none ∙ ap (λ o. in_use (λ (k : ℕ). o) (Some j)) is)

    by : (o : Option ℕ) → name_in t d (last_name names) ≡ o → in_use t o ≡ None → o ≡ None
    by None is none = refl
    by (Some j) is none = absurd (used j (t j) refl is none)

  -- a file has no names
  pub bare : (i : ℕ) (a : trees.Node) → t i ≡ Some a → a.kind ≡ File → HasNoNames t i
  bare i a is file q = by (name_in t i q) refl where
    by : (o : Option ℕ) → name_in t i q ≡ o → o ≡ None
    by None said = refl
    by (Some j) said = absurd (file_leaf of_sound i (node_of a) (node_at i a is) file q j said)

  -- an inode that counts no names has none
  pub uncounted : CountsNames t → (i : ℕ) (a : trees.Node) → t i ≡ Some a → nat_lt 0 (count_at t i) ≡ false → HasNoNames t i
  uncounted counts i a is few q =
      let zero = by (leb_tells 1 a.count) (ap (λ (o : Option trees.Node). nat_lt 0 (count_at (λ k. o) i)) (sym is) ∙ few) in
      ap (λ (o : Option trees.Node). name_in (λ k. o) i q) is ∙ counts i a is zero q where
        by : ((nat_lt 0 a.count ≡ true) × (1 ≤ a.count)) ⊎ ((nat_lt 0 a.count ≡ false) × (a.count < 1)) → nat_lt 0 a.count ≡ false → a.count ≡ 0
        by (inl (on, some)) off = absurd (let clash : true ≡ false = sym on ∙ off in cc)
        by (inr (said, none)) off = omega (arith, none)

  -- a directory isn't on the way to its new name
  pub clear_of : (i : ℕ) (a : trees.Node) → t i ≡ Some a → (next : List ℕ) (others : List (List ℕ)) → is_directory_at t i && passes t (Some (next ∷ others)) i ≡ false → IsOfKind g i Directory → Contains (graph.passed g 1 (way_to (next ∷ others))) i → ⊥
  clear_of i a is next others past kind within = no_member (trees.passed t 1 (next ∷ others)) i
      (ap (λ b. b && passes t (Some (next ∷ others)) i) (sym on) ∙ past) (subst (λ (xs : List ℕ). Contains xs i) (passed_there g t (λ k q. refl) 1 next others) within) where
        on : is_directory_at t i ≡ true
        on = by (is_directory_at t i) refl where
          by : (b : Bool) → is_directory_at t i ≡ b → b ≡ true
          by true said = refl
          by false said = absurd (let file = file_kind a.kind (ap (λ (o : Option trees.Node). is_directory_at (λ k. o) i) (sym is) ∙ said) in
              let one : kind.0 ≡ node_of a = (let both : Some kind.0 ≡ Some (node_of a) = sym kind.1 ∙ node_at i a is in cc) in
              let clash : Directory ≡ File = sym kind.2 ∙ ap (λ (n : Node). n.kind) one ∙ file in cc)

  -- ---- create and mkdir

  pub create_keeps : (w : World) (kind : Kind) (cpu : ℕ) (names : List (List ℕ)) (needed mode time : ℕ) → IsUnused w t cpu → first_refusal (create_tests w t cpu (Some names) needed) ≡ None
      → IsFaultless (calls.created kind (w.unused cpu) names mode time t)
  create_keeps w kind cpu names needed mode time unused none =
      subst (λ o. IsFaultless (calls.created kind o names mode time t)) (sym c.unused)
      (subst (λ ns. IsFaultless (calls.created kind (Some i) ns mode time t)) (sym c.are) here) where
        c : Creates w t cpu names
        c = creates w t cpu names needed none

        i : ℕ
        i = c.inode

        d : ℕ
        d = c.directory

        own : List (List ℕ)
        own = c.first ∷ c.rest

        free : t i ≡ None
        free = unused i c.unused

        u : Tree
        u = calls.created kind (Some i) own mode time t

        middle : Tree
        middle = put_node i (Some (new_node kind mode time)) t

        is : u ≡ edit d (calls.with_name (last_name own) i time) middle
        is = ap (λ r. on_ok r (λ e. edit e (calls.with_name (last_name own) i time) middle) t) c.lacks.way

        nodes : (j : ℕ) → shown (u j) ≡ cond (nat_eq j i) (Some (record { kind = kind; links = 1 })) (shown (t j))
        nodes j = ap (λ (v : Tree). shown (v j)) is ∙ edit_shown middle d (calls.with_name (last_name own) i time) (λ a. refl) j ∙ put_shown t i (Some (new_node kind mode time)) j

        here : IsFaultless u
        here = same_faultless (made g kind d (last_name own) i) (tree_graph u)
            (set_graph t u (with_node g i (Some (record { kind = kind; links = 1 }))) d (last_name own) (Some i) (created_names t kind i d c.first c.rest mode time free c.lacks.way) (λ e q. refl) nodes)
            (faultless _ (made_sound g kind d (last_name own) i of_sound (directory_at c.first c.rest d c.lacks.way) (absent own d c.lacks) (ap shown free)))

  -- ---- a file's links

  counted : (i count time : ℕ) (a : trees.Node) → t i ≡ Some a → (j : ℕ) → shown (edit i (with_links count time) t j) ≡ cond (nat_eq j i) (Some (record { kind = a.kind; links = count })) (shown (t j))
  counted i count time a is j = put_shown t i (option_map (with_links count time) (t i)) j ∙ ap (λ o. cond (nat_eq j i) (shown (option_map (with_links count time) o)) (shown (t j))) is

  pub links_are : (i : ℕ) (a : trees.Node) → t i ≡ Some a → links_at t i ≡ a.links
  links_are i a is = ap (λ (o : Option trees.Node). calls.links_at (λ k. o) i) is

  pub link_keeps : (w : World) (cpu : ℕ) (old new : List (List ℕ)) (needed time : ℕ) → first_refusal (link_tests w t cpu (Some old) (Some new) needed) ≡ None → IsFaultless (calls.linked old new time t)
  link_keeps w cpu old new needed time none = subst (λ ns. IsFaultless (calls.linked old ns time t)) (sym c.are) here where
    c : Links t old new
    c = links w t cpu old new needed none

    i : ℕ
    i = c.inode

    d : ℕ
    d = c.directory

    more : ℕ
    more = c.node.links + 1

    own : List (List ℕ)
    own = c.first ∷ c.rest

    u : Tree
    u = calls.linked old own time t

    joined : ℕ → ℕ → Tree
    joined j e = edit e (calls.with_name (last_name own) j time) (edit j (with_links (links_at t j + 1) time) t)

    is : u ≡ joined i d
    is = ap (λ o. on_some o (λ j. on_ok (walk t 1 own) (joined j) t) t) c.leads ∙ ap (λ r. on_ok r (joined i) t) c.lacks.way

    nodes : (j : ℕ) → shown (u j) ≡ cond (nat_eq j i) (Some (record { kind = c.node.kind; links = more })) (shown (t j))
    nodes j = ap (λ (v : Tree). shown (v j)) is ∙ edit_shown (edit i (with_links (links_at t i + 1) time) t) d (calls.with_name (last_name own) i time) (λ a. refl) j
        ∙ ap (λ n. shown (edit i (with_links (n + 1) time) t j)) (links_are i c.node c.used) ∙ counted i more time c.node c.used j

    here : IsFaultless u
    here = same_faultless (linked g d (last_name own) i (node_of c.node)) (tree_graph u)
        (set_graph t u (with_node g i (Some (record { kind = c.node.kind; links = more }))) d (last_name own) (Some i) (linked_names t old i d c.first c.rest time c.leads c.lacks.way) (λ e q. refl) nodes)
        (faultless _ (linked_sound g d (last_name own) i (node_of c.node) of_sound (directory_at c.first c.rest d c.lacks.way) (absent own d c.lacks) (node_at i c.node c.used) (file_kind c.node.kind c.kind)))

  -- ---- unlink

  pub unlink_keeps : (w : World) (cpu : ℕ) (names : List (List ℕ)) (needed time : ℕ) → first_refusal (unlink_tests w t cpu (Some names) needed) ≡ None → IsFaultless (calls.unlinked names time t)
  unlink_keeps w cpu names needed time none = subst (λ ns. IsFaultless (calls.unlinked ns time t)) (sym c.are) (here (leb_tells c.stands.node.links 1)) where
    c : Names t names false
    c = unlinks w t cpu names needed none

    i : ℕ
    i = c.inode

    d : ℕ
    d = c.directory

    less : ℕ
    less = c.stands.node.links - 1

    own : List (List ℕ)
    own = c.first ∷ c.rest

    u : Tree
    u = calls.unlinked own time t

    file : c.stands.node.kind ≡ File
    file = file_kind c.stands.node.kind c.kind

    without : ℕ → ℕ → Tree
    without j e = edit e (calls.without_name (last_name own) time) (released j time t)

    is : u ≡ without i d
    is = ap (λ o. on_some o (λ j. on_ok (walk t 1 own) (without j) t) t) c.stands.leads ∙ ap (λ r. on_ok r (without i) t) c.stands.way

    released_as : (b : Bool) → nat_le c.stands.node.links 1 ≡ b → released i time t ≡ cond b (put_node i None t) (edit i (with_links less time) t)
    released_as b said =
        ap (λ n. cond (nat_le n 1) (put_node i None t) (edit i (with_links (n - 1) time) t)) (links_are i c.stands.node c.stands.used)
        ∙ ap (λ x. cond x (put_node i None t) (edit i (with_links less time) t)) said

    nodes : (j : ℕ) (b : Bool) → nat_le c.stands.node.links 1 ≡ b → shown (u j) ≡ shown (cond b (put_node i None t) (edit i (with_links less time) t) j)
    nodes j b said = ap (λ (v : Tree). shown (v j)) is ∙ edit_shown (released i time t) d (calls.without_name (last_name own) time) (λ a. refl) j ∙ ap (λ (v : Tree). shown (v j)) (released_as b said)

    sets : SetsName t d (last_name own) None u
    sets = unlinked_names t i d own time c.stands.leads c.stands.way (bare i c.stands.node c.stands.used file)

    here : ((nat_le c.stands.node.links 1 ≡ true) × (c.stands.node.links ≤ 1)) ⊎ ((nat_le c.stands.node.links 1 ≡ false) × (1 < c.stands.node.links)) → IsFaultless u
    here (inl (said, few)) = same_faultless (removed g d (last_name own) i) (tree_graph u)
        (set_graph t u (with_node g i None) d (last_name own) None sets (λ e q. refl) (λ j. nodes j true said ∙ put_shown t i None j))
        (faultless _ (last_removed_sound g d (last_name own) i (node_of c.stands.node) of_sound c.stands.name (node_at i c.stands.node c.stands.used) file few))
    here (inr (said, many)) = same_faultless (unlinked g d (last_name own) i (node_of c.stands.node)) (tree_graph u)
        (set_graph t u (with_node g i (Some (record { kind = c.stands.node.kind; links = less }))) d (last_name own) None sets (λ e q. refl)
        (λ j. nodes j false said ∙ counted i less time c.stands.node c.stands.used j))
        (faultless _ (unlinked_sound g d (last_name own) i (node_of c.stands.node) of_sound c.stands.name (node_at i c.stands.node c.stands.used) file many))

  -- ---- rmdir

  pub rmdir_keeps : (w : World) (cpu : ℕ) (names : List (List ℕ)) (needed time : ℕ) → CountsNames t → first_refusal (rmdir_tests w t cpu (Some names) needed) ≡ None → IsFaultless (calls.removed names time t)
  rmdir_keeps w cpu names needed time counts none = subst (λ ns. IsFaultless (calls.removed ns time t)) (sym c.are) here where
    r : Removes t names
    r = removes w t cpu names needed none

    c : Names t names true
    c = r.named

    i : ℕ
    i = c.inode

    d : ℕ
    d = c.directory

    own : List (List ℕ)
    own = c.first ∷ c.rest

    u : Tree
    u = calls.removed own time t

    empty : HasNoNames t i
    empty = uncounted counts i c.stands.node c.stands.used r.few

    without : ℕ → ℕ → Tree
    without j e = edit e (calls.without_name (last_name own) time) (put_node j None t)

    is : u ≡ without i d
    is = ap (λ o. on_some o (λ j. on_ok (walk t 1 own) (without j) t) t) c.stands.leads ∙ ap (λ w. on_ok w (without i) t) c.stands.way

    nodes : (j : ℕ) → shown (u j) ≡ cond (nat_eq j i) None (shown (t j))
    nodes j = ap (λ (v : Tree). shown (v j)) is ∙ edit_shown (put_node i None t) d (calls.without_name (last_name own) time) (λ a. refl) j ∙ put_shown t i None j

    here : IsFaultless u
    here = same_faultless (removed g d (last_name own) i) (tree_graph u)
        (set_graph t u (with_node g i None) d (last_name own) None (removed_names t i d own time c.stands.leads c.stands.way empty) (λ e q. refl) nodes)
        (faultless _ (directory_removed_sound g d (last_name own) i of_sound c.stands.name (node_of c.stands.node, node_at i c.stands.node c.stands.used, directory_kind c.stands.node.kind c.kind) empty))

  -- ---- rename

  pub rename_keeps : (w : World) (cpu : ℕ) (old new : List (List ℕ)) (needed time : ℕ) → first_refusal (rename_tests w t cpu (Some old) (Some new) needed) ≡ None → IsFaultless (calls.renamed old new time t)
  rename_keeps w cpu old new needed time none =
      subst (λ ns. IsFaultless (calls.renamed ns new time t)) (sym c.from_is) (subst (λ ns. IsFaultless (calls.renamed from_path ns time t)) (sym c.to_is) here) where
        c : Renames t old new
        c = renames w t cpu old new needed none

        i : ℕ
        i = c.inode

        d : ℕ
        d = c.from

        e : ℕ
        e = c.to

        from_path : List (List ℕ)
        from_path = c.first ∷ c.rest

        to_path : List (List ℕ)
        to_path = c.next ∷ c.others

        u : Tree
        u = calls.renamed from_path to_path time t

        cut : Tree
        cut = edit d (calls.without_name (last_name from_path) time) t

        after : ℕ → ℕ → ℕ → Tree
        after j k l = edit l (calls.with_name (last_name to_path) j time) (edit k (calls.without_name (last_name from_path) time) t)

        is : u ≡ after i d e
        is = ap (λ o. on_some o (λ j. on_ok (walk t 1 from_path) (λ k. on_ok (walk t 1 to_path) (after j k) t) t) t) c.stands.leads
            ∙ ap (λ r. on_ok r (λ k. on_ok (walk t 1 to_path) (after i k) t) t) c.stands.way ∙ ap (λ r. on_ok r (after i d) t) c.lacks.way

        nodes : (j : ℕ) → shown (u j) ≡ shown (t j)
        nodes j = ap (λ (v : Tree). shown (v j)) is ∙ edit_shown cut e (calls.with_name (last_name to_path) i time) (λ a. refl) j ∙ edit_shown t d (calls.without_name (last_name from_path) time) (λ a. refl) j

        both : (without : Tree) × SetsName t d (last_name from_path) None without × SetsName without e (last_name to_path) (Some i) u
        both = renamed_names t from_path i d e c.next c.others time c.stands.leads c.stands.way c.lacks.way

        same : SameGraph (renamed g d (last_name from_path) e (last_name to_path) i) (tree_graph u)
        same = set_graph both.0 u (with_name g d (last_name from_path) None) e (last_name to_path) (Some i) both.2
            (λ k q. sym (set_names t both.0 g d (last_name from_path) None both.1 (λ k q. refl) k q)) nodes

        here : IsFaultless u
        here = same_faultless (renamed g d (last_name from_path) e (last_name to_path) i) (tree_graph u) same
            (faultless _ (renamed_by_path g d (last_name from_path) (way_to to_path) e (last_name to_path) i of_sound c.stands.name (walked_there g t (λ k q. refl) 1 e c.next c.others c.lacks.way)
            (directory_at c.next c.others e c.lacks.way) (absent to_path e c.lacks) (clear_of i c.stands.node c.stands.used c.next c.others c.past)))

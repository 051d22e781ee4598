-- Nothing is wrong with what is held once a name of one inode was given to another: entry by entry, on logs that grow by one at a time.
use Rattle.std.proofs.Common.{◌≡◌, ◌≢◌, ℕ, ◌<◌, ◌≤◌, ◌-◌, ◌==◌, Bool, true, false, cond, inl, inr, List, [], ◌∷◌, ◌++◌, append_assoc, append-nil, refl, ap, sym, ◌∙◌, subst, Option, Some, None, arith}
use Rattle.std.specs.Option.{option_map}
use Rattle.nv_super.specs.declared.kind.Kind.TheVariants.{File, Directory}
use Rattle.nv_super.specs.Layout.{Layout, most_links}
use Rattle.nv_super.proofs.Options.{some_is}
use Rattle.nv_entry.specs.declared.entry.Operation.TheVariants.{Add, Remove}
use Rattle.nv_logpage.specs.declared.found.Placed.{Placed}
use Rattle.nv_graph.specs.Graph.{Graph, Node}
use Rattle.nv_graph.specs.Calls.{SameGraph, is_name, replaced, with_name, with_node}
use Rattle.nv_graph.proofs.Changes.{directory_removed_sound, file_leaf, last_removed_sound, unlinked_sound}
use Rattle.nv_graph.proofs.Names.{renames, that_or}
use Rattle.nv_graph.proofs.Replaced.{replaced_faultless}
use Rattle.nv_graph.proofs.Root.{name_follows, node_follows, same_faultless}
use Rattle.nv_graph.proofs.Sound.{Sound, sound}
use Rattle.std.proofs.lemmas.Option.{none-some}
use Rattle.nv_graph.specs.Step.{IsGoodName, links_entry, name_entry}
use Rattle.nv_mounted.specs.Held.{Held, Store, with_inode}
use Rattle.nv_mounted.specs.Blocks.{NoneDoubled, OwnsNew}
use Rattle.nv_mounted.specs.Graph.{graph_in, node_in}
use Rattle.nv_mounted.specs.Grows.{grown}
use Rattle.nv_mounted.specs.Mounted.{AreClean, IsFaultless}
use Rattle.nv_mounted.proofs.Graphs.{file_went, linked_to, one_name, went}
use Rattle.nv_mounted.proofs.Owning.{other_held, same_held, still_undoubled}
use Rattle.nv_commit.specs.ReplacedNames.{CanGo, CanTakeName, taking_entries}
use Rattle.nv_commit.proofs.Called.{add_fits, either_none, gone_clean, grown_clean, links_fit, none_owns, removal_fits}

-- nothing is wrong with the entries that are held, and their graph is this one
record Follows (l : Layout) (held : Store) (g : Graph) : Type 0 where
  pub clean : AreClean l held
  pub graph : SameGraph g (graph_in l held)

-- ---- one log that grows by one entry

module _ (l : Layout) (held : Store) (g : Graph) (so : Follows l held g) (d : ℕ) (h : Held) (is : held d ≡ Some h) where
  removes : h.kind ≡ Directory → (tail : ℕ) (fresh : List ℕ) (at j i : ℕ) (name : List ℕ) (time : ℕ) → IsGoodName l.sup j name → g.name d name ≡ Some i
      → Follows l (with_inode held d (Some (grown h tail (name_entry at Remove j name time ∷ []) fresh))) (with_name g d name None)
  removes directory tail fresh at j i name time good there = record {
    clean = grown_clean l held d h is so.clean tail (name_entry at Remove j name time) fresh (removal_fits l held d h is directory at j name time good i (so.graph.name d name ∙ there));
    graph = name_follows g (graph_in l held) _ d name None so.graph (one_name l held d h is directory tail fresh at Remove j name time good);
  }

  adds : h.kind ≡ Directory → (tail : ℕ) (fresh : List ℕ) (at i : ℕ) (name : List ℕ) (time : ℕ) → IsGoodName l.sup i name → g.name d name ≡ None
      → Follows l (with_inode held d (Some (grown h tail (name_entry at Add i name time ∷ []) fresh))) (with_name g d name (Some i))
  adds directory tail fresh at i name time good absent = record {
    clean = grown_clean l held d h is so.clean tail (name_entry at Add i name time) fresh (add_fits l held d h is directory at i name time good (so.graph.name d name ∙ absent));
    graph = name_follows g (graph_in l held) _ d name (Some i) so.graph (one_name l held d h is directory tail fresh at Add i name time good);
  }

  counts : h.kind ≡ File → (tail : ℕ) (fresh : List ℕ) (at links time : ℕ) → 0 < links → links ≤ most_links
      → Follows l (with_inode held d (Some (grown h tail (links_entry at links time ∷ []) fresh))) (with_node g d (Some (record { kind = h.kind; links = links })))
  counts file tail fresh at links time some few = record {
    clean = grown_clean l held d h is so.clean tail (links_entry at links time) fresh (links_fit l held d h is file at links time some few);
    graph = node_follows g (graph_in l held) _ d (Some (record { kind = h.kind; links = links })) so.graph (linked_to l held d h is file tail fresh at links time some few);
  }

  file_goes : h.kind ≡ File → Follows l (with_inode held d None) (with_node g d None)
  file_goes file = record { clean = gone_clean l held d so.clean; graph = node_follows g (graph_in l held) _ d None so.graph (file_went l held d h is file) }

  empty_goes : ((q : List ℕ) → g.name d q ≡ None) → Follows l (with_inode held d None) (with_node g d None)
  empty_goes empty = record { clean = gone_clean l held d so.clean; graph = node_follows g (graph_in l held) _ d None so.graph (went l held d h is (λ q. so.graph.name d q ∙ empty q)) }

-- ---- stores

-- what is put over another
over : {A : Type 0} (b : Bool) (x y z : A) → cond b y (cond b x z) ≡ cond b y z
over true x y z = refl
over false x y z = refl

over_put : (held : Store) (e : ℕ) (x y : Option Held) → with_inode (with_inode held e x) e y ≡ with_inode held e y
over_put held e x y = λ k j. over (j == e) x y (held j) k

-- one log that grows twice has grown by both
module _ (held : Store) (e : ℕ) (h : Held) (end : ℕ) (xs more : List Placed) (pages : List ℕ) where
  abbrev once : Held
  once = grown h end xs pages

  grown_twice : grown once end more [] ≡ grown h end (xs ++ more) pages
  grown_twice = λ k. record h { tail = end; entries = append_assoc h.entries xs more k; pages = append-nil (h.pages ++ pages) k }

  both_put : with_inode (with_inode held e (Some once)) e (Some (grown once end more [])) ≡ with_inode held e (Some (grown h end (xs ++ more) pages))
  both_put = over_put held e (Some once) (Some (grown once end more [])) ∙ ap (λ (g : Held). with_inode held e (Some g)) grown_twice

-- ---- the name that is given to another inode

module _ (l : Layout) (held : Store) (d : ℕ) (h : Held) (name : List ℕ) (path : List (List ℕ)) (e : ℕ) (k : Held) (other : List ℕ) (i j : ℕ) (f : Held) (can : CanTakeName l held d h name path e k other i j f) where
  abbrev g : Graph
  g = graph_in l held

  -- without the old name, without the new one, and with it for the other inode
  abbrev less : Graph
  less = with_name g d name None

  abbrev cut : Graph
  cut = with_name less e other None

  abbrev given : Graph
  given = with_name cut e other (Some i)

  here : Follows l held g
  here = record { clean = can.was.clean; graph = record { node = λ m. refl; name = λ c q. refl } }

  -- who has names is a directory
  has_names : (c : ℕ) (o : Held) (q : List ℕ) (m : ℕ) → held c ≡ Some o → g.name c q ≡ Some m → o.kind ≡ Directory
  has_names c o q m is there =
      let w = can.was.named.within c q m there in
      let same : node_in l o ≡ w.0 = some_is (node_in l o) w.0 (g.node c) (ap (option_map (node_in l)) is) w.1 in
      ap (λ (n : Node). n.kind) same ∙ w.2

  from_kind : h.kind ≡ Directory
  from_kind = has_names d h name i can.from can.named

  to_kind : k.kind ≡ Directory
  to_kind = has_names e k other j can.to can.taken

  still_taken : less.name e other ≡ Some j
  still_taken = elim (that_or d name (e, other)) [
    | inl w ↦ absurd (can.differ (some_is i j (g.name d name) can.named (subst (λ (x : ℕ × List ℕ). g.name x.0 x.1 ≡ Some j) w can.taken)))
    | inr w ↦ (renames g d name None).other (e, other) w ∙ can.taken
  ]

  cut_there : cut.name e other ≡ None
  cut_there = (renames less e other None).here

  -- ---- the log of the old name's directory, and that of the new one's

  module _ (at time tail : ℕ) (fresh : List ℕ) where
    abbrev from_now : Held
    from_now = grown h tail (name_entry at Remove i name time ∷ []) fresh

    abbrev first : Store
    first = with_inode held d (Some from_now)

    after_first : Follows l first less
    after_first = removes l held g here d h can.from from_kind tail fresh at i i name time can.good can.named

    module _ (next last end : ℕ) (pages : List ℕ) (apart : e ≢ d) where
      abbrev to_now : Held
      to_now = grown k end (taking_entries i j other time next last) pages

      to_there : first e ≡ Some k
      to_there = other_held held d e (Some from_now) apart ∙ can.to

      abbrev cut_now : Held
      cut_now = grown k end (name_entry next Remove j other time ∷ []) pages

      abbrev second : Store
      second = with_inode first e (Some cut_now)

      after_second : Follows l second cut
      after_second = removes l first less after_first e k to_there to_kind end pages next j j other time can.good_there still_taken

      after_third : Follows l (with_inode second e (Some (grown cut_now end (name_entry last Add i other time ∷ []) []))) given
      after_third = adds l second cut after_second e cut_now (same_held first e (Some cut_now)) to_kind end [] last i other time can.good_other cut_there

      after_both : Follows l (with_inode first e (Some to_now)) given
      after_both = subst (λ (s : Store). Follows l s given) (both_put first e k end (name_entry next Remove j other time ∷ []) (name_entry last Add i other time ∷ []) pages) after_third

    -- within one directory
    module _ (next last : ℕ) (same : e ≡ d) where
      abbrev here_now : Held
      here_now = grown h tail (name_entry at Remove i name time ∷ taking_entries i j other time next last) fresh

      abbrev two_now : Held
      two_now = grown h tail (name_entry at Remove i name time ∷ name_entry next Remove j other time ∷ []) fresh

      abbrev two : Store
      two = with_inode held d (Some two_now)

      after_cut : Follows l (with_inode first d (Some (grown from_now tail (name_entry next Remove j other time ∷ []) []))) (with_name less d other None)
      after_cut = removes l first less after_first d from_now (same_held held d (Some from_now)) from_kind tail [] next j j other time can.good_there (ap (λ (c : ℕ). less.name c other) (sym same) ∙ still_taken)

      after_two : Follows l two (with_name less d other None)
      after_two = subst (λ (s : Store). Follows l s (with_name less d other None)) (both_put held d h tail (name_entry at Remove i name time ∷ []) (name_entry next Remove j other time ∷ []) fresh) after_cut

      after_add : Follows l (with_inode two d (Some (grown two_now tail (name_entry last Add i other time ∷ []) []))) (with_name (with_name less d other None) d other (Some i))
      after_add = adds l two (with_name less d other None) after_two d two_now (same_held held d (Some two_now)) from_kind tail [] last i other time can.good_other (renames less d other None).here

      after_here : Follows l (with_inode held d (Some here_now)) given
      after_here = subst (λ (c : ℕ). Follows l (with_inode held d (Some here_now)) (with_name (with_name less c other None) c other (Some i))) (sym same)
          (subst (λ (s : Store). Follows l s (with_name (with_name less d other None) d other (Some i)))
          (both_put held d h tail (name_entry at Remove i name time ∷ name_entry next Remove j other time ∷ []) (name_entry last Add i other time ∷ []) fresh) after_add)

  -- ---- the inode whose name it was

  node_there : g.node j ≡ Some (node_in l f)
  node_there = ap (option_map (node_in l)) can.there

  -- it has no names, so it is neither directory
  module _ (bare : (q : List ℕ) (m : ℕ) → g.name j q ≡ Some m → ⊥) where
    not_from : j ≢ d
    not_from is = bare name i (ap (λ (c : ℕ). g.name c name) is ∙ can.named)

    not_to : j ≢ e
    not_to is = bare other j (ap (λ (c : ℕ). g.name c other) is ∙ can.taken)

    -- the name is set over what it stood for
    faultless_then : (left : Option Node) (after : Store) → Follows l after (with_node given j left) → NoneDoubled l after → Sound (with_name (with_node g j left) e other None) → IsFaultless l after
    faultless_then left after so undoubled rest = record {
      clean = so.clean;
      undoubled = undoubled;
      named = same_faultless (replaced g d name e other i j left) (graph_in l after)
          (record { node = λ m. so.graph.node m; name = λ c q. so.graph.name c q ∙ over (is_name e other c q) None (Some i) (less.name c q) })
          (replaced_faultless path (sound g can.was.named) can.named can.leads can.taken can.differ can.outside bare left rest);
    }

  file_bare : f.kind ≡ File → (q : List ℕ) (m : ℕ) → g.name j q ≡ Some m → ⊥
  file_bare file = file_leaf (sound g can.was.named) j (node_in l f) node_there file

  empty_bare : ((q : List ℕ) → g.name j q ≡ None) → (q : List ℕ) (m : ℕ) → g.name j q ≡ Some m → ⊥
  empty_bare empty q m is = none-some m (sym (empty q) ∙ is)

  still_empty : j ≢ e → ((q : List ℕ) → g.name j q ≡ None) → (q : List ℕ) → given.name j q ≡ None
  still_empty apart empty q =
      (renames cut e other (Some i)).other (j, q) (λ z. apart (λ t. (z t).0))
      ∙ either_none (is_name e other j q) (less.name j q) (either_none (is_name d name j q) (g.name j q) (empty q))

  -- the last step, where both logs have grown
  module _ (mid : Store) (so : Follows l mid given) (undoubled : NoneDoubled l mid) where
    goes : mid j ≡ Some f → CanGo l held j f → IsFaultless l (with_inode mid j None)
    goes is (inl last) =
        faultless_then (file_bare last.0) None (with_inode mid j None) (file_goes l mid given so j f is last.0) (still_undoubled l mid j None (none_owns l mid j) undoubled)
        (last_removed_sound g e other j (node_in l f) (sound g can.was.named) can.taken node_there last.0 last.1)
    goes is (inr empty) =
        faultless_then (empty_bare empty.1) None (with_inode mid j None) (empty_goes l mid given so j f is (still_empty (not_to (empty_bare empty.1)) empty.1)) (still_undoubled l mid j None (none_owns l mid j) undoubled)
        (directory_removed_sound g e other j (sound g can.was.named) can.taken (node_in l f, node_there, empty.0) empty.1)

    counts_less : mid j ≡ Some f → (file : f.kind ≡ File) → 1 < (node_in l f).links → (node_in l f).links ≤ most_links → (file_at file_tail time : ℕ) (file_fresh : List ℕ)
        → OwnsNew l mid j (Some (grown f file_tail (links_entry file_at ((node_in l f).links - 1) time ∷ []) file_fresh))
        → IsFaultless l (with_inode mid j (Some (grown f file_tail (links_entry file_at ((node_in l f).links - 1) time ∷ []) file_fresh)))
    counts_less is file some few file_at file_tail time file_fresh own =
        faultless_then (file_bare file) (Some (record { kind = f.kind; links = (node_in l f).links - 1 })) _
        (counts l mid given so j f is file file_tail file_fresh file_at ((node_in l f).links - 1) time (omega (arith, some)) (omega (arith, few)))
        (still_undoubled l mid j _ own undoubled)
        (unlinked_sound g e other j (node_in l f) (sound g can.was.named) can.taken node_there file some)

  go_bare : CanGo l held j f → (q : List ℕ) (m : ℕ) → g.name j q ≡ Some m → ⊥
  go_bare (inl last) = file_bare last.0
  go_bare (inr empty) = empty_bare empty.1

  -- ---- the laws

  module _ (at time tail : ℕ) (fresh : List ℕ) (next last : ℕ) where
    module _ (end : ℕ) (pages : List ℕ) (apart : e ≢ d) (one : OwnsNew l held d (Some (from_now at time tail fresh)))
        (two : OwnsNew l (first at time tail fresh) e (Some (to_now at time tail fresh next last end pages apart))) where
      abbrev grew : Store
      grew = with_inode (first at time tail fresh) e (Some (to_now at time tail fresh next last end pages apart))

      grew_undoubled : NoneDoubled l grew
      grew_undoubled = still_undoubled l (first at time tail fresh) e (Some (to_now at time tail fresh next last end pages apart)) two (still_undoubled l held d (Some (from_now at time tail fresh)) one can.was.undoubled)

      grew_there : ((q : List ℕ) (m : ℕ) → g.name j q ≡ Some m → ⊥) → grew j ≡ Some f
      grew_there bare = other_held (first at time tail fresh) e j (Some (to_now at time tail fresh next last end pages apart)) (not_to bare) ∙ other_held held d j (Some (from_now at time tail fresh)) (not_from bare) ∙ can.there

      pub gone_across : CanGo l held j f → IsFaultless l (with_inode grew j None)
      gone_across go = goes grew (after_both at time tail fresh next last end pages apart) grew_undoubled (grew_there (go_bare go)) go

      pub less_across : (file : f.kind ≡ File) → 1 < (node_in l f).links → (node_in l f).links ≤ most_links → (file_at file_tail : ℕ) (file_fresh : List ℕ)
          → OwnsNew l grew j (Some (grown f file_tail (links_entry file_at ((node_in l f).links - 1) time ∷ []) file_fresh))
          → IsFaultless l (with_inode grew j (Some (grown f file_tail (links_entry file_at ((node_in l f).links - 1) time ∷ []) file_fresh)))
      less_across file some few file_at file_tail file_fresh own =
          counts_less grew (after_both at time tail fresh next last end pages apart) grew_undoubled (grew_there (file_bare file)) file some few file_at file_tail time file_fresh own

    module _ (same : e ≡ d) (one : OwnsNew l held d (Some (here_now at time tail fresh next last same))) where
      abbrev stayed : Store
      stayed = with_inode held d (Some (here_now at time tail fresh next last same))

      stayed_undoubled : NoneDoubled l stayed
      stayed_undoubled = still_undoubled l held d (Some (here_now at time tail fresh next last same)) one can.was.undoubled

      stayed_there : ((q : List ℕ) (m : ℕ) → g.name j q ≡ Some m → ⊥) → stayed j ≡ Some f
      stayed_there bare = other_held held d j (Some (here_now at time tail fresh next last same)) (not_from bare) ∙ can.there

      pub gone_within : CanGo l held j f → IsFaultless l (with_inode stayed j None)
      gone_within go = goes stayed (after_here at time tail fresh next last same) stayed_undoubled (stayed_there (go_bare go)) go

      pub less_within : (file : f.kind ≡ File) → 1 < (node_in l f).links → (node_in l f).links ≤ most_links → (file_at file_tail : ℕ) (file_fresh : List ℕ)
          → OwnsNew l stayed j (Some (grown f file_tail (links_entry file_at ((node_in l f).links - 1) time ∷ []) file_fresh))
          → IsFaultless l (with_inode stayed j (Some (grown f file_tail (links_entry file_at ((node_in l f).links - 1) time ∷ []) file_fresh)))
      less_within file some few file_at file_tail file_fresh own =
          counts_less stayed (after_here at time tail fresh next last same) stayed_undoubled (stayed_there (file_bare file)) file some few file_at file_tail time file_fresh own

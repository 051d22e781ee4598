-- What `replace` makes of a tree, by the inode that it moves, the one that has the new name, and both directories.
use Rattle.std.proofs.Common.{◌≡◌, ◌≢◌, ◌⊎◌, ℕ, ◌-◌, ◌<◌, ◌≤◌, Bool, true, false, cond, eqb, inl, inr, List, ◌∷◌, Option, Some, None, Ok, refl, ap, ◌∙◌, subst}
use Rattle.std.specs.Option.{option_map, option_map_or}
use Rattle.std.proofs.lemmas.Bool.{ne_eqb}
use Rattle.nv_tree.specs.Path.{last_name}
use Rattle.nv_tree.specs.Tree.{Node, Tree, found, name_in, walk}
use Rattle.nv_tree.specs.Calls.{edit, links_at, put_node, removed, renamed, unlinked, with_links, with_name, without_name}
use Rattle.nv_tree.specs.Refusals.{is_directory_at}
use Rattle.nv_tree.specs.Laws.{SetsName}
use Rattle.nv_tree.specs.Replace.{Replaces, are_one, at_directory, replaced, vacated}
use Rattle.nv_tree.proofs.Cuts.{CutsName, cut_found, cut_walk, last_stood, named_differs}
use Rattle.nv_tree.proofs.Effects.{removed_names, unlinked_names}
use Rattle.nv_tree.proofs.Leads.{edit_stays}
use Rattle.nv_calls.proofs.MovedAcross.{renamed_by}
use Rattle.nv_calls.proofs.RemovedTree.{removed_by}
use Rattle.nv_calls.proofs.UnlinkedTree.{unlinked_last, unlinked_more}

module _ {t : Tree} {i j d e : ℕ} {first : List ℕ} {old : List (List ℕ)} {name : List ℕ} {new : List (List ℕ)} (time : ℕ) (r : Replaces t (first ∷ old) (name ∷ new) i j d e) where
  abbrev from_path : List (List ℕ)
  from_path = first ∷ old

  abbrev to_path : List (List ℕ)
  to_path = name ∷ new

  abbrev old_name : List ℕ
  old_name = last_name (first ∷ old)

  abbrev new_name : List ℕ
  new_name = last_name (name ∷ new)

  -- what the paths' last names stood for
  old_stood : name_in t d old_name ≡ Some i
  old_stood = (last_stood t first old d i r.from r.moved).1

  new_stood : name_in t e new_name ≡ Some j
  new_stood = (last_stood t name new e j r.way r.there).1

  not_one : are_one t (Some from_path) (Some to_path) ≡ false
  not_one =
      ap (λ (o : Option ℕ). option_map_or (λ k. option_map_or (eqb k) (found t to_path) false) o false) r.moved
      ∙ ap (λ (o : Option ℕ). option_map_or (eqb i) o false) r.there ∙ ne_eqb i j r.differ

  vacated_sets : SetsName t e new_name None (vacated to_path time t)
  vacated_sets = by (at_directory t (Some to_path)) where
    by : (b : Bool) → SetsName t e new_name None (cond b (removed to_path time t) (unlinked to_path time t))
    by true = removed_names t j e to_path time r.there r.way r.bare
    by false = unlinked_names t j e to_path time r.there r.way r.bare

  -- by the tree in which the inode that had the name has lost a link, or is gone
  module _ (before : Tree) (vacated_is : vacated to_path time t ≡ edit e (without_name new_name time) before) (stays : (k : ℕ) → k ≢ j → before k ≡ t k) where
    abbrev gone : Tree
    gone = edit e (without_name new_name time) before

    gone_cuts : CutsName t e new_name j gone
    gone_cuts = record {
      stood = new_stood;
      bare = r.bare;
      cuts = subst (λ (u : Tree). SetsName t e new_name None u) vacated_is vacated_sets;
      kept = λ k a ne used. (edit_stays before e (without_name new_name time) (λ c. refl)).stays k a (stays k ne ∙ used);
    }

    gone_from : walk gone 1 from_path ≡ Ok d
    gone_from = cut_walk t e new_name j gone gone_cuts 1 from_path d (named_differs t j d i old_name r.bare old_stood) r.from

    gone_way : walk gone 1 to_path ≡ Ok e
    gone_way = cut_walk t e new_name j gone gone_cuts 1 to_path e (named_differs t j e j new_name r.bare new_stood) r.way

    gone_moved : found gone from_path ≡ Some i
    gone_moved = cut_found t e new_name j gone gone_cuts first old d i r.differ r.from r.moved

    replaced_is : replaced from_path to_path time t ≡ edit e (with_name new_name i time) (edit d (without_name old_name time) gone)
    replaced_is =
        ap (λ (b : Bool). cond b t (renamed from_path to_path time (vacated to_path time t))) not_one ∙ ap (renamed from_path to_path time) vacated_is
        ∙ renamed_by from_path to_path time gone i d e old_name new_name gone_moved gone_from gone_way refl refl

  -- an inode beside the one that is changed
  off_edit : (k : ℕ) (f : Node → Node) (m : ℕ) → m ≢ k → edit k f t m ≡ t m
  off_edit k f m ne = ap (λ (b : Bool). cond b (option_map f (t k)) (t m)) (ne_eqb m k ne)

  vacated_by : (b : Bool) (u : Tree) → is_directory_at t j ≡ b → cond b (removed to_path time t) (unlinked to_path time t) ≡ u → vacated to_path time t ≡ u
  vacated_by b u is made = ap (λ (o : Option ℕ). cond (option_map_or (is_directory_at t) o false) (removed to_path time t) (unlinked to_path time t)) r.there ∙ ap (λ (c : Bool). cond c (removed to_path time t) (unlinked to_path time t)) is ∙ made

  -- Where it was a directory, or had one link, it is gone.
  pub replaced_gone : (is_directory_at t j ≡ true) ⊎ ((is_directory_at t j ≡ false) × (links_at t j ≤ 1)) → replaced from_path to_path time t ≡ edit e (with_name new_name i time) (edit d (without_name old_name time) (edit e (without_name new_name time) (put_node j None t)))
  replaced_gone which = replaced_is (put_node j None t) (by which) (λ k ne. ap (λ (b : Bool). cond b None (t k)) (ne_eqb k j ne)) where
    by : (is_directory_at t j ≡ true) ⊎ ((is_directory_at t j ≡ false) × (links_at t j ≤ 1)) → vacated to_path time t ≡ edit e (without_name new_name time) (put_node j None t)
    by (inl on) = vacated_by true _ on (removed_by to_path time t j e new_name r.there r.way refl)
    by (inr w) = vacated_by false _ w.0 (unlinked_last to_path time t j e new_name r.there r.way refl (links_at t j) refl w.1)

  -- Else it has a link less.
  pub replaced_less : is_directory_at t j ≡ false → (n : ℕ) → links_at t j ≡ n → 1 < n → replaced from_path to_path time t ≡ edit e (with_name new_name i time) (edit d (without_name old_name time) (edit e (without_name new_name time) (edit j (with_links (n - 1) time) t)))
  replaced_less off n count more = replaced_is (edit j (with_links (n - 1) time) t) (vacated_by false _ off (unlinked_more to_path time t j e new_name r.there r.way refl n count more)) (λ k ne. off_edit j (with_links (n - 1) time) k ne)

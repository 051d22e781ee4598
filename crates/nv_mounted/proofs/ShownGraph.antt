-- What a region shows has the region's graph.
use Rattle.std.proofs.Common.{◌≡◌, ℕ, List, refl, ap, sym, ◌∙◌, subst, Some}
use Rattle.std.specs.Option.{option_map, option_and_then}
use Rattle.std.proofs.lemmas.Option.{none-some, option_and_then_some}
use Rattle.nv_region.specs.Region.{Region}
use Rattle.nv_super.specs.declared.kind.Kind.{Kind}
use Rattle.nv_super.specs.declared.kind.Kind.TheVariants.{File, Directory}
use Rattle.nv_super.specs.Layout.{Layout}
use Rattle.nv_logpage.specs.Good.{good_entries}
use Rattle.nv_scan.specs.State.{named, links_of}
use Rattle.nv_scan.specs.Inode.{Log, good_of}
use Rattle.nv_scan.proofs.KindsApart.{file_names}
use Rattle.nv_outcome.specs.Outcome.{HasName}
use Rattle.nv_graph.specs.Read.{IsGraphOf}
use Rattle.nv_graph.proofs.OfRows.{mapped}
use Rattle.nv_mounted.specs.Held.{Held, Store, Shows, log_of, good_in}
use Rattle.nv_mounted.specs.Graph.{node_in, target_in, graph_in}
use Rattle.nv_mounted.proofs.Shown.{held_inode, stands_at, in_use, is_held}

-- a log that says names is a directory's
names_a_directory : (l : Layout) (h : Held) (name : List ℕ) (x : ℕ × ℕ) → named (good_in l h) name ≡ Some x → h.kind ≡ Directory
names_a_directory l h name x e = by_kind h.kind refl where
  by_kind : (k : Kind) → h.kind ≡ k → h.kind ≡ Directory
  by_kind Directory same = same
  by_kind File same = absurd (none-some x (sym (file_names l.sup h.entries name) ∙ ap (λ (k : Kind). named (good_entries l.sup k h.entries) name) (sym same) ∙ e))

module _ {R : Region} {l : Layout} {held : Store} (shows : Shows R l held) where
  -- a name in what is held is one in the region
  name_shown : (d i : ℕ) (name : List ℕ) (h : Held) → held d ≡ Some h → target_in l name h ≡ Some i → (at : ℕ) × HasName R l d name i at
  name_shown d i name h is e =
      let v = stands_at shows d h is in
      let m = mapped (λ (x : ℕ × ℕ). x.0) (named (good_in l h) name) i e in
      let says : named (good_in l h) name ≡ Some (i, m.0.1) = m.1 ∙ ap (λ (k : ℕ). Some (k, m.0.1)) m.2 in
      (m.0.1, (v.a, log_of h, held_inode R l d v.a h v.at v.is, names_a_directory l h name (i, m.0.1) says, says))

  pub graph_shown : IsGraphOf R l (graph_in l held)
  graph_shown = record {
    node = λ i a log is. (
        let w = is_held shows i a log is in
        ap (option_map (node_in l)) w.held_is ∙ ap (λ (v : Log). Some (record { kind = v.kind; links = links_of (good_of l v) })) (sym w.same));
    in_use = λ i n e. (let m = mapped (node_in l) (held i) n e in in_use shows i m.0 m.1);
    name = λ d name i at h. (
        let w = is_held shows d h.0 h.1 h.2 in
        ap (option_and_then (target_in l name)) w.held_is ∙ ap (option_map (λ (x : ℕ × ℕ). x.0)) (subst (λ (v : Log). named (good_of l v) name ≡ Some (i, at)) w.same h.4));
    named = λ d name i e. option_and_then_some (target_in l name) (held d) i e (name_shown d i name);
  }

-- A name that is given to another inode: what is owed for it, by what a mounted file system shows of both paths.
use Rattle.std.proofs.Common.{◌≡◌, ◌≢◌, ℕ, ◌≤◌, nat_lt, not, false, ◌&&◌, inl, inr, List, ◌∷◌, slice_get, refl, ap, sym, ◌∙◌, subst, arith, Option, Some, Ok}
use Rattle.std.specs.List.{Contains}
use Rattle.std.specs.Option.{option_and_then, option_map}
use Rattle.std.proofs.lemmas.Bool.Decides.{nat_tests}
use Rattle.nv_region.specs.Region.{Region}
use Rattle.nv_super.specs.declared.kind.Kind.{Kind}
use Rattle.nv_super.specs.declared.kind.Kind.TheVariants.{File, Directory}
use Rattle.nv_super.specs.Layout.{Layout}
use Rattle.nv_super.proofs.Members.{stands}
use Rattle.nv_super.proofs.Options.{some_is}
use Rattle.nv_alloc.specs.FreeValue.{FreeLists}
use Rattle.nv_names.specs.Names.{name_at}
use Rattle.nv_scan.specs.declared.piece.Row.{Row}
use Rattle.nv_graph.specs.Graph.{IsOfKind, Node}
use Rattle.nv_graph.specs.Graph as graph
use Rattle.nv_graph.specs.Step.{IsGoodName}
use Rattle.nv_mounted.specs.Held.{Held, Store}
use Rattle.nv_mounted.specs.Graph.{graph_in, node_in, target_in}
use Rattle.nv_mounted.specs.Mounted.{IsMounted}
use Rattle.nv_commit.specs.ReplacedNames.{CanTakeName}
use Rattle.nv_commit.specs.ReplacedNames as held_names
use Rattle.nv_tree.specs.Tree.{walk, is_directory as tree_directory}
use Rattle.nv_paths.specs.ReplaceSpots.{IsReplaceSpot}
use Rattle.nv_paths.specs.Seen.{tree_of}
use Rattle.nv_steps.specs.Steps.{ShowsRow}
use Rattle.nv_steps.proofs.RowOf.{row_at}
use Rattle.nv_calls.specs.AtPlaces.{CanGo}
use Rattle.nv_calls.specs.ReplaceCalls.{keeps_others}
use Rattle.nv_calls.proofs.CreatedRows.{in_rows}
use Rattle.nv_graph.proofs.Ways.{passed_there, walked_there, way_to}
use Rattle.nv_calls.proofs.GraphPaths.{graph_agrees}

-- what can go by its row can go by what is held
pub held_goes : {R : Region} {l : Layout} {held : Store} {f : Held} {gone : Row} {free : FreeLists} → ShowsRow R l held f gone free → CanGo gone → held_names.CanGo l held gone.inode f
held_goes {l = l} {held = held} {f = f} {gone = gone} shows (inl w) =
    let told = shows.told in
    inr (sym told.kind ∙ w.0, λ q. ap (λ (o : Option Held). option_and_then (target_in l q) o) shows.holds ∙ ap (λ (o : Option (ℕ × ℕ)). option_map (λ (y : ℕ × ℕ). y.0) o) (sym (told.names q) ∙ w.1 q))
held_goes {l = l} {held = held} {f = f} {gone = gone} shows (inr w) = let told = shows.told in let numbers = told.numbers in inl (sym told.kind ∙ w.0, subst (λ (n : ℕ). n ≤ 1) numbers.links w.1)

module _ (R : Region) (l : Layout) (rows : List Row) (target : ℕ) {place source end : ℕ} {name other : List ℕ} {row to gone : Row} (moved : Row) (at : slice_get rows place ≡ Some row) (to_at : slice_get rows end ≡ Some to) (moved_at : slice_get rows source ≡ Some moved) (gone_at : slice_get rows target ≡ Some gone)
    (names : List (List ℕ)) (first : List ℕ) (rest : List (List ℕ)) (spot : IsReplaceSpot (tree_of R rows) rows names (first ∷ rest) place name source end other (Some gone.inode)) (apart : moved.inode ≢ gone.inode) where
  abbrev i : ℕ
  i = moved.inode

  abbrev j : ℕ
  j = gone.inode

  pub spot_directory : row.kind ≡ Directory
  spot_directory = let way = spot.way in let from = way.from in (from.directory row at).1

  pub spot_to : to.kind ≡ Directory
  spot_to = let way = spot.way in let ends = way.to in (ends.row to to_at).1

  spot_walked : walk (tree_of R rows) 1 (first ∷ rest) ≡ Ok to.inode
  spot_walked = let way = spot.way in let ends = way.to in (ends.row to to_at).0

  pub spot_named : option_map (λ (x : ℕ × ℕ). x.0) (name_at row.names name) ≡ Some i
  spot_named = let way = spot.way in let from = way.from in from.named row moved at moved_at

  pub spot_taken : option_map (λ (x : ℕ × ℕ). x.0) (name_at to.names other) ≡ Some j
  spot_taken = let over = spot.over in over.named to j to_at refl

  module _ (free : FreeLists) {held : Store} (m : IsMounted R l held rows free.pools) where
    -- What goes has no names, and is a directory or has no other link.
    pub spot_goes : keeps_others gone ≡ false → CanGo gone
    spot_goes goes = by gone.kind refl where
      last : (n : ℕ) → nat_lt 1 n ≡ false → n ≤ 1
      last n test = grind (arith, nat_tests)

      by : (k : Kind) → gone.kind ≡ k → CanGo gone
      by File is = inr (is, last gone.numbers.links (sym (ap (λ (k : Kind). not (tree_directory k) && nat_lt 1 gone.numbers.links) is) ∙ goes))
      by Directory is =
          let keeps = in_rows m in
          let over = spot.over in
          inl (is, λ q. over.bare moved gone j moved_at refl (row_at rows target gone keeps.rising gone_at) (λ e. apart (sym e)) q)

    outside : IsOfKind (graph_in l held) i Directory → Contains (graph.passed (graph_in l held) 1 (way_to (first ∷ rest))) i → ⊥
    outside of_node c =
        let way = spot.way in
        let w = (in_rows m).each moved (stands rows source moved moved_at) in
        let told = w.2 in
        let same : node_in l w.0 ≡ of_node.0 = some_is (node_in l w.0) of_node.0 (option_map (node_in l) (held i)) (ap (λ (o : Option Held). option_map (node_in l) o) w.1) of_node.1 in
        way.apart moved moved_at (told.kind ∙ ap (λ (n : Node). n.kind) same ∙ of_node.2)
        (subst (λ (xs : List ℕ). Contains xs i) (passed_there (graph_in l held) (tree_of R rows) (graph_agrees m) 1 first rest) c)

    is_named : {h : Held} {d : Row} (shows : ShowsRow R l held h d free) (q : List ℕ) (k : ℕ) → option_map (λ (x : ℕ × ℕ). x.0) (name_at d.names q) ≡ Some k → (graph_in l held).name d.inode q ≡ Some k
    is_named shows q k there =
        let told = shows.told in
        ap (λ (o : Option Held). option_and_then (target_in l q) o) shows.holds ∙ ap (λ (o : Option (ℕ × ℕ)). option_map (λ (y : ℕ × ℕ). y.0) o) (sym (told.names q)) ∙ there

    pub can_take : {h k f : Held} (shows : ShowsRow R l held h row free) (shows_to : ShowsRow R l held k to free) (shows_gone : ShowsRow R l held f gone free) → IsGoodName l.sup i name → IsGoodName l.sup i other → IsGoodName l.sup j other
        → CanTakeName l held row.inode h name (way_to (first ∷ rest)) to.inode k other i j f
    can_take shows shows_to shows_gone good good_other good_there = record {
      was = (let sound = shows.sound in sound.faultless);
      from = shows.holds;
      to = shows_to.holds;
      there = shows_gone.holds;
      good = good;
      good_other = good_other;
      good_there = good_there;
      named = is_named shows name i spot_named;
      leads = walked_there (graph_in l held) (tree_of R rows) (graph_agrees m) 1 to.inode first rest spot_walked;
      taken = is_named shows_to other j spot_taken;
      differ = apart;
      outside = outside;
    }

-- A name that went from one directory to another, where it stood for another inode, which goes or loses a link: what is kept, the
-- tree, and the logs.
use Rattle.std.proofs.Common.{◌≡◌, ◌≢◌, ℕ, ◌-◌, ◌/◌, Bool, true, false, inl, inr, List, ◌∷◌, remove, set, slice_get, refl, ap, sym, ◌∙◌, subst, Some, None}
use Rattle.std.specs.List.{Contains}
use Rattle.nv_region.specs.Region.{Region}
use Rattle.nv_super.specs.declared.superblock.Super.{Super}
use Rattle.nv_super.specs.declared.faults.Fault.{Fault}
use Rattle.nv_super.specs.declared.owners.Run.{Run}
use Rattle.nv_super.specs.Order.{Rises}
use Rattle.nv_super.specs.Layout.{Layout}
use Rattle.nv_alloc.specs.FreeValue.{FreeLists}
use Rattle.nv_radix.specs.Pages.{block_at}
use Rattle.nv_scan.specs.declared.piece.Row.{Row}
use Rattle.nv_rows.proofs.Places.{set_rising}
use Rattle.nv_cross_check.specs.Cross.{row_key}
use Rattle.nv_graph.specs.Step.{IsGoodName}
use Rattle.nv_mounted.specs.Held.{Held, Store}
use Rattle.nv_mounted.specs.Bytes.{byte_in}
use Rattle.nv_mounted.specs.Mounted.{IsMounted, ShowsSound}
use Rattle.nv_tree.specs.Path.{IsPathName, last_name}
use Rattle.nv_tree.specs.Tree.{Node, SameNode, SameTree, Tree, is_directory}
use Rattle.nv_tree.specs.Calls.{edit, put_node, with_links, with_name, without_name}
use Rattle.nv_tree.specs.Refusals.{is_directory_at}
use Rattle.nv_tree.specs.Replace.{replaced}
use Rattle.nv_tree.proofs.Same.{edit_kept, links_kept, name_kept, no_name_kept, put_kept, same_transitive}
use Rattle.nv_paths.specs.ReplaceSpots.{IsReplaceSpot}
use Rattle.nv_paths.specs.Seen.{node_of, tree_of}
use Rattle.nv_steps.specs.LessNames.{GivesRow, HasLost}
use Rattle.nv_steps.specs.MoreNames.{NamesOnce}
use Rattle.nv_steps.specs.Moves.{HasMoved}
use Rattle.nv_entry.specs.declared.entry.Operation.TheVariants.{Remove}
use Rattle.nv_steps.specs.Across.{LessensAcross, TakesAcross, handed_entries}
use Rattle.nv_steps.specs.NameEntries.{links_entries, name_entries}
use Rattle.nv_steps.proofs.NamesCounted.{as_many}
use Rattle.nv_steps.proofs.RowsAt.{other_set}
use Rattle.nv_calls.specs.Mount.{IsKept}
use Rattle.nv_calls.specs.ReplaceCalls.{ReplacesOver, keeps_others}
use Rattle.nv_calls.specs.ReplaceLogs.{ShowsBothLess, ShowsThreeGrew, TakesPlace, has_others}
use Rattle.nv_calls.proofs.GoneAcross as gone_across
use Rattle.nv_calls.proofs.LessAcross as less_across
use Rattle.nv_calls.proofs.LessenedHeld.{stays_file}
use Rattle.nv_calls.proofs.LinkedTree.{counted_node}
use Rattle.nv_calls.proofs.MoveCall.{places_numbers}
use Rattle.nv_calls.proofs.ReplaceAt.{by_words, more_links}
use Rattle.nv_calls.proofs.ReplacedSpot.{apart_at, from_differs, goes_there, good, kind_there, links_there, places_are, replaces, rising, spot_at, to_differs}
use Rattle.nv_calls.proofs.RemovedTree.{lost_node}
use Rattle.nv_calls.proofs.ReplacedTree.{replaced_gone, replaced_less}
use Rattle.nv_calls.proofs.RowsTree.{edit_twice, edits_swap, put_swaps, row_changed, row_gone, tree_stays}
use Rattle.nv_calls.proofs.TakenOut.{places_differ}
use Rattle.nv_calls.proofs.TakenSpot.{spot_named, spot_taken}
use Rattle.nv_calls.proofs.TakenTree.{handed_node}

module _ {R : Region} {s : Super} {l : Layout} {rows : List Row} {free : FreeLists} {faults : List Fault} {read_only stopped : Bool} (kept : IsKept R s l rows free faults read_only stopped) (runs : stopped ≡ false) (writes : read_only ≡ false)
    {place source end : ℕ} (target : ℕ) {name other : List ℕ} (moved there : Row) (moved_at : slice_get rows source ≡ Some moved) (there_at : slice_get rows target ≡ Some there) (spelled : IsPathName name) (spelled_other : IsPathName other) (first_old : List ℕ) (old : List (List ℕ)) (first : List ℕ) (rest : List (List ℕ))
    (spot : IsReplaceSpot (tree_of R rows) rows (first_old ∷ old) (first ∷ rest) place name source end other (Some there.inode)) (apart : moved.inode ≢ there.inode) (places_apart : place ≢ end) where
  abbrev i : ℕ
  i = moved.inode

  abbrev names : List (List ℕ)
  names = first_old ∷ old

  abbrev others : List (List ℕ)
  others = first ∷ rest

  abbrev t : Tree
  t = tree_of R rows

  spot_here : (r : Row) → slice_get rows target ≡ Some r → IsReplaceSpot t rows names others place name source end other (Some r.inode)
  spot_here = spot_at kept runs writes target moved there moved_at there_at first_old old first rest spot apart

  apart_here : (r : Row) → slice_get rows target ≡ Some r → i ≢ r.inode
  apart_here = apart_at kept runs writes target moved there moved_at there_at first_old old first rest spot apart

  rises : Rises row_key rows
  rises = rising kept runs writes target moved there moved_at there_at first_old old first rest spot apart

  good_here : (q : List ℕ) → IsPathName q → (k : ℕ) (r : Row) → slice_get rows k ≡ Some r → IsGoodName l.sup r.inode q
  good_here = good kept runs writes target moved there moved_at there_at first_old old first rest spot apart

  from_apart : (row : Row) → slice_get rows place ≡ Some row → (r : Row) → slice_get rows target ≡ Some r → row.inode ≢ r.inode
  from_apart = from_differs kept runs writes target moved there moved_at there_at first_old old first rest spot apart

  to_apart : (row : Row) → slice_get rows end ≡ Some row → (r : Row) → slice_get rows target ≡ Some r → row.inode ≢ r.inode
  to_apart = to_differs kept runs writes target moved there moved_at there_at first_old old first rest spot apart

  both_apart : (from to : Row) → slice_get rows place ≡ Some from → slice_get rows end ≡ Some to → from.inode ≢ to.inode
  both_apart from to at to_at = places_numbers rows place end from to rises at to_at places_apart

  told_here : (from : Row) → slice_get rows place ≡ Some from → (to : Row) → slice_get rows end ≡ Some to → (r : Row) → slice_get rows target ≡ Some r → (a b d e : ℕ) (node : Node) → TakesPlace t names others a b d e node → (i ≡ a) × (r.inode ≡ b) × (from.inode ≡ d) × (to.inode ≡ e) × (node_of R r ≡ node)
  told_here from at to to_at r r_at a b d e node takes = places_are kept runs writes target moved there moved_at there_at first_old old first rest spot apart from at to to_at r r_at a b d e node takes

  -- what the step makes of both directories
  abbrev lose : ℕ → Node → Node
  lose time n = without_name name time n

  abbrev hand : ℕ → Node → Node
  hand time n = with_name other i time (without_name other time n)

  hand_kept : (time : ℕ) (a b : Node) → SameNode a b → SameNode (hand time a) (hand time b)
  hand_kept time a b same = name_kept other i time (without_name other time a) (without_name other time b) (no_name_kept other time a b same)

  -- and the tree machine
  one_by_one : (u : Tree) (d e time : ℕ) → d ≢ e → edit e (hand time) (edit d (lose time) u) ≡ edit e (with_name (last_name others) i time) (edit d (without_name (last_name names) time) (edit e (without_name (last_name others) time) u))
  one_by_one u d e time differ =
      let way = spot.way in
      let from = way.from in
      let to = way.to in
      edit_twice (edit d (lose time) u) e (with_name other i time) (without_name other time)
      ∙ ap (edit e (with_name other i time)) (edits_swap u e d (without_name other time) (without_name name time) differ)
      ∙ (λ k. edit e (with_name (to.name_is k) i time) (edit d (without_name (from.name_is k) time) (edit e (without_name (to.name_is k) time) u)))

  -- ---- the rows of both directories

  module _ (S : Region) {from from_now to to_now r : Row} (time : ℕ) (fresh more : List ℕ) (end_from end_to given : ℕ) (at : slice_get rows place ≡ Some from) (to_at : slice_get rows end ≡ Some to) (r_at : slice_get rows target ≡ Some r)
      (lost : HasLost from fresh end_from name time from_now) (once : NamesOnce from from_now) (has : HasMoved to more end_to other other i given time to_now) (bytes : (q : Row) → Contains rows q → (x : ℕ) → byte_in S (block_at q.index (x / 4096)) x ≡ byte_in R (block_at q.index (x / 4096)) x) where
    abbrev all : List Row
    all = set (set rows place from_now) end to_now

    to_still : slice_get (set rows place from_now) end ≡ Some to
    to_still = other_set rows place end from_now (places_differ rows place end from to at to_at (both_apart from to at to_at)) ∙ to_at

    still_there : slice_get all target ≡ Some r
    still_there = other_set (set rows place from_now) end target to_now (places_differ rows end target to r to_at r_at (to_apart to to_at r r_at)) ∙ other_set rows place target from_now (places_differ rows place target from r at r_at (from_apart from at r r_at)) ∙ r_at

    first_rises : Rises row_key (set rows place from_now)
    first_rises = set_rising rows place from from_now rises at lost.inode

    all_rises : Rises row_key all
    all_rises = set_rising (set rows place from_now) end to to_now first_rises to_still has.inode

    first_tree : SameTree (tree_of S (set rows place from_now)) (edit from.inode (lose time) t)
    first_tree = same_transitive (tree_of S (set rows place from_now)) (edit from.inode (lose time) (tree_of S rows)) (edit from.inode (lose time) t)
        (row_changed S rows rises place from at from_now (lose time) lost.inode (lost_node S S fresh end_from name i time lost once.0 once.1 (spot_named R l rows target moved at to_at moved_at r_at names first rest (spot_here r r_at) (apart_here r r_at)) (λ x. refl)))
        (edit_kept (tree_of S rows) t from.inode (lose time) (lose time) (no_name_kept name time) (tree_stays R S rows bytes))

    both_tree : SameTree (tree_of S all) (edit to.inode (hand time) (edit from.inode (lose time) t))
    both_tree = same_transitive (tree_of S all) (edit to.inode (hand time) (tree_of S (set rows place from_now))) (edit to.inode (hand time) (edit from.inode (lose time) t))
        (row_changed S (set rows place from_now) first_rises end to to_still to_now (hand time) has.inode (handed_node S S more end_to given other i r.inode time has (spot_taken R l rows target moved at to_at moved_at r_at names first rest (spot_here r r_at) (apart_here r r_at)) (λ x. refl)))
        (edit_kept (tree_of S (set rows place from_now)) (edit from.inode (lose time) t) to.inode (hand time) (hand time) (hand_kept time) first_tree)

  -- ---- where it goes

  module _ {S : Region} {news : List Row} {mid : FreeLists} {cpu time : ℕ} {from from_now to to_now gone : Row} (at : slice_get rows place ≡ Some from) (to_at : slice_get rows end ≡ Some to) (gone_at : slice_get rows target ≡ Some gone) (step : TakesAcross R S l free mid cpu from from_now to to_now i gone.inode name other time)
      (put : news ≡ remove (set (set rows place from_now) end to_now) target) (goes : keeps_others gone ≡ false) where
    gone_kept : {after : FreeLists} → GivesRow mid gone after → (later : Bool) → IsKept S s l news after faults read_only later
    gone_kept given later = gone_across.kept_then kept runs writes target moved at to_at moved_at gone_at step put names first rest (spot_here gone gone_at) (good_here name spelled source moved moved_at) (good_here other spelled_other source moved moved_at) (good_here other spelled_other target gone gone_at)
        (apart_here gone gone_at) goes (both_apart from to at to_at) (from_apart from at gone gone_at) (to_apart to to_at gone gone_at) given later

    pub gone_some : (held : Store) (m : IsMounted R l held rows free.pools) → (then : Store) × (lists : List (List Run)) × IsMounted S l then news lists
    gone_some held m =
        let w = gone_across.mounted_some kept runs writes target moved at to_at moved_at gone_at step put names first rest (spot_here gone gone_at) (good_here name spelled source moved moved_at) (good_here other spelled_other source moved moved_at) (good_here other spelled_other target gone gone_at)
        (apart_here gone gone_at) goes (both_apart from to at to_at) (from_apart from at gone gone_at) (to_apart to to_at gone gone_at) held m in
        (_, w.0, w.1)

    pub gone_last : (a b d e : ℕ) (node : Node) (held : Store) (h k : Held) → TakesPlace t names others a b d e node → ShowsSound R l held → held d ≡ Some h → held e ≡ Some k
        → ShowsBothLess S l free.pools cpu held d h (name_entries Remove a (last_name names) time) e k (handed_entries a b (last_name others) time) b
    gone_last a b d e node held h k takes sound is other_is =
        let w = told_here from at to to_at gone gone_at a b d e node takes in
        let way = spot.way in
        let named = way.from in
        let ends = way.to in
        by_words (λ (x y : ℕ) (q o : List ℕ) (z : ℕ). ShowsBothLess S l free.pools cpu held d h (name_entries Remove x q time) z k (handed_entries x y o time) y) w.0 w.1 named.name_is ends.name_is w.3
        (subst (λ (z : ℕ). ShowsBothLess S l free.pools cpu held z h (name_entries Remove i name time) to.inode k (handed_entries i gone.inode other time) gone.inode) w.2
        (gone_across.was_handed kept runs writes target moved at to_at moved_at gone_at step put names first rest (spot_here gone gone_at) (good_here name spelled source moved moved_at) (good_here other spelled_other source moved moved_at) (good_here other spelled_other target gone gone_at)
        (apart_here gone gone_at) goes (both_apart from to at to_at) (from_apart from at gone gone_at) (to_apart to to_at gone gone_at) held h k sound (ap held w.2 ∙ is) (ap held w.3 ∙ other_is)))

    -- it had no other names
    pub gone_others : (a b d e : ℕ) (node : Node) → TakesPlace t names others a b d e node → has_others node ≡ true → ⊥
    gone_others a b d e node takes on =
        let w = told_here from at to to_at gone gone_at a b d e node takes in
        let clash : false ≡ true = sym goes ∙ ap has_others w.4 ∙ on in
        cc

    bytes : (r : Row) → Contains rows r → (x : ℕ) → byte_in S (block_at r.index (x / 4096)) x ≡ byte_in R (block_at r.index (x / 4096)) x
    bytes = gone_across.bytes_kept kept runs writes target moved at to_at moved_at gone_at step put names first rest (spot_here gone gone_at) (good_here name spelled source moved moved_at) (good_here other spelled_other source moved moved_at) (good_here other spelled_other target gone gone_at)
        (apart_here gone gone_at) goes (both_apart from to at to_at) (from_apart from at gone gone_at) (to_apart to to_at gone gone_at)

    pub gone_tree : SameTree (tree_of S news) (replaced names others time t)
    gone_tree =
        let left = step.is in
        let has = step.other_is in
        let d = from.inode in
        let e = to.inode in
        let two = set (set rows place from_now) end to_now in
        let made : Tree = edit e (hand time) (edit d (lose time) t) in
        let went : SameTree (tree_of S (remove two target)) (put_node gone.inode None made) = same_transitive (tree_of S (remove two target)) (put_node gone.inode None (tree_of S two)) (put_node gone.inode None made)
        (row_gone S two (all_rises S time step.fresh step.more _ _ _ at to_at gone_at left.0 left.1 has bytes) target gone (still_there S time step.fresh step.more _ _ _ at to_at gone_at left.0 left.1 has bytes))
        (put_kept (tree_of S two) made gone.inode None None tt (both_tree S time step.fresh step.more _ _ _ at to_at gone_at left.0 left.1 has bytes)) in
        let order : put_node gone.inode None made ≡ replaced names others time t = put_swaps (edit d (lose time) t) gone.inode e None (hand time) (to_apart to to_at gone gone_at)
        ∙ ap (edit e (hand time)) (put_swaps t gone.inode d None (lose time) (from_apart from at gone gone_at)) ∙ one_by_one (put_node gone.inode None t) d e time (both_apart from to at to_at)
        ∙ sym (replaced_gone time (replaces kept runs writes target moved there moved_at there_at first_old old first rest spot apart from at to to_at gone gone_at) (goes_there kept runs writes target moved there moved_at there_at first_old old first rest spot apart gone gone_at goes)) in
        subst (λ (rs : List Row). SameTree (tree_of S rs) (replaced names others time t)) (sym put) (subst (λ (u : Tree). SameTree (tree_of S (remove two target)) u) order went)

  -- ---- where it has other names

  module _ {S : Region} {news : List Row} {after : FreeLists} {cpu time : ℕ} {from from_now to to_now file file_now : Row} (at : slice_get rows place ≡ Some from) (to_at : slice_get rows end ≡ Some to) (file_at : slice_get rows target ≡ Some file) (step : LessensAcross R S l free after cpu from from_now to to_now file file_now i name other time)
      (put : news ≡ set (set (set rows place from_now) end to_now) target file_now) (has_more : keeps_others file ≡ true) where
    less_kept : (later : Bool) → IsKept S s l news after faults read_only later
    less_kept later = less_across.kept_then kept runs writes target moved at to_at moved_at file_at step put names first rest (spot_here file file_at) (good_here name spelled source moved moved_at) (good_here other spelled_other source moved moved_at) (good_here other spelled_other target file file_at)
        (apart_here file file_at) has_more (both_apart from to at to_at) (from_apart from at file file_at) (to_apart to to_at file file_at) later

    pub less_mounted : (held : Store) (m : IsMounted R l held rows free.pools) → (then : Store) × IsMounted S l then news after.pools
    less_mounted held m = (
      _,
      less_across.mounted_then kept runs writes target moved at to_at moved_at file_at step put names first rest (spot_here file file_at) (good_here name spelled source moved moved_at) (good_here other spelled_other source moved moved_at) (good_here other spelled_other target file file_at)
          (apart_here file file_at) has_more (both_apart from to at to_at) (from_apart from at file file_at) (to_apart to to_at file file_at) held m,
    )

    pub less_more : (a b d e : ℕ) (node : Node) (held : Store) (h k f : Held) → TakesPlace t names others a b d e node → ShowsSound R l held → held d ≡ Some h → held e ≡ Some k → held b ≡ Some f
        → ShowsThreeGrew S l free.pools cpu held d h (name_entries Remove a (last_name names) time) e k (handed_entries a b (last_name others) time) b f (links_entries (node.links - 1) time)
    less_more a b d e node held h k f takes sound is other_is last_is =
        let w = told_here from at to to_at file file_at a b d e node takes in
        let way = spot.way in
        let named = way.from in
        let ends = way.to in
        subst (λ (x : Node). ShowsThreeGrew S l free.pools cpu held d h (name_entries Remove a (last_name names) time) e k (handed_entries a b (last_name others) time) b f (links_entries (x.links - 1) time)) w.4
        (by_words (λ (x y : ℕ) (q o : List ℕ) (z : ℕ). ShowsThreeGrew S l free.pools cpu held d h (name_entries Remove x q time) z k (handed_entries x y o time) y f (links_entries (file.numbers.links - 1) time)) w.0 w.1 named.name_is ends.name_is w.3
        (subst (λ (z : ℕ). ShowsThreeGrew S l free.pools cpu held z h (name_entries Remove i name time) to.inode k (handed_entries i file.inode other time) file.inode f (links_entries (file.numbers.links - 1) time)) w.2
        (less_across.three_grew kept runs writes target moved at to_at moved_at file_at step put names first rest (spot_here file file_at) (good_here name spelled source moved moved_at) (good_here other spelled_other source moved moved_at) (good_here other spelled_other target file file_at)
        (apart_here file file_at) has_more (both_apart from to at to_at) (from_apart from at file file_at) (to_apart to to_at file file_at) held h k f sound (ap held w.2 ∙ is) (ap held w.3 ∙ other_is) (ap held w.1 ∙ last_is))))

    -- it has other names
    pub less_others : (a b d e : ℕ) (node : Node) → TakesPlace t names others a b d e node → has_others node ≡ false → ⊥
    less_others a b d e node takes off =
        let w = told_here from at to to_at file file_at a b d e node takes in
        let clash : true ≡ false = sym has_more ∙ ap has_others w.4 ∙ off in
        cc

    less_bytes : (r : Row) → Contains rows r → (x : ℕ) → byte_in S (block_at r.index (x / 4096)) x ≡ byte_in R (block_at r.index (x / 4096)) x
    less_bytes = less_across.bytes_kept kept runs writes target moved at to_at moved_at file_at step put names first rest (spot_here file file_at) (good_here name spelled source moved moved_at) (good_here other spelled_other source moved moved_at) (good_here other spelled_other target file file_at)
        (apart_here file file_at) has_more (both_apart from to at to_at) (from_apart from at file file_at) (to_apart to to_at file file_at)

    pub less_tree : SameTree (tree_of S news) (replaced names others time t)
    less_tree =
        let left = step.is in
        let has = step.other_is in
        let counts = step.third_is in
        let counted = counts.0 in
        let files_once = counts.1 in
        let d = from.inode in
        let e = to.inode in
        let links = file.numbers.links in
        let change_links : Node → Node = with_links (links - 1) time in
        let two = set (set rows place from_now) end to_now in
        let made : Tree = edit e (hand time) (edit d (lose time) t) in
        let node = counted_node S S step.rest _ (links - 1) time counted (as_many file.names file_now.names files_once.0 files_once.1 counted.names) (λ x. refl) in
        let less : SameTree (tree_of S (set two target file_now)) (edit file.inode change_links made) = same_transitive (tree_of S (set two target file_now)) (edit file.inode change_links (tree_of S two)) (edit file.inode change_links made)
        (row_changed S two (all_rises S time step.fresh step.more _ _ _ at to_at file_at left.0 left.1 has less_bytes) target file (still_there S time step.fresh step.more _ _ _ at to_at file_at left.0 left.1 has less_bytes) file_now change_links counted.inode node)
        (edit_kept (tree_of S two) made file.inode change_links change_links (links_kept (links - 1) (links - 1) time refl) (both_tree S time step.fresh step.more _ _ _ at to_at file_at left.0 left.1 has less_bytes)) in
        let off : is_directory_at t file.inode ≡ false = kind_there kept runs writes target moved there moved_at there_at first_old old first rest spot apart file file_at ∙ ap is_directory (stays_file file has_more) in
        let order : edit file.inode change_links made ≡ replaced names others time t = edits_swap (edit d (lose time) t) file.inode e change_links (hand time) (to_apart to to_at file file_at)
        ∙ ap (edit e (hand time)) (edits_swap t file.inode d change_links (lose time) (from_apart from at file file_at)) ∙ one_by_one (edit file.inode change_links t) d e time (both_apart from to at to_at)
        ∙ sym (replaced_less time (replaces kept runs writes target moved there moved_at there_at first_old old first rest spot apart from at to to_at file file_at) off links (links_there kept runs writes target moved there moved_at there_at first_old old first rest spot apart file file_at) (more_links file has_more)) in
        subst (λ (rs : List Row). SameTree (tree_of S rs) (replaced names others time t)) (sym put) (subst (λ (u : Tree). SameTree (tree_of S (set two target file_now)) u) order less)

  -- ---- in both cases

  module _ {S : Region} {news : List Row} {after : FreeLists} {cpu time : ℕ} (done : ReplacesOver R S l free after cpu rows news place end target i name other time) where
    -- What is kept.
    pub over_kept : (later : Bool) → IsKept S s l news after faults read_only later
    over_kept later = by done where
      by : ReplacesOver R S l free after cpu rows news place end target i name other time → IsKept S s l news after faults read_only later
      by (inl w) = let step = w.1 in less_kept step.at step.to_at step.file_at step.step step.put (w.0 step.file step.file_at) later
      by (inr w) = let step = w.1 in gone_kept step.at step.to_at step.gone_at step.step step.put (w.0 step.gone step.gone_at) step.given later

    -- The tree is what the call makes of that of before.
    pub over_tree : SameTree (tree_of S news) (replaced names others time t)
    over_tree = by done where
      by : ReplacesOver R S l free after cpu rows news place end target i name other time → SameTree (tree_of S news) (replaced names others time t)
      by (inl w) = let step = w.1 in less_tree step.at step.to_at step.file_at step.step step.put (w.0 step.file step.file_at)
      by (inr w) = let step = w.1 in gone_tree step.at step.to_at step.gone_at step.step step.put (w.0 step.gone step.gone_at)

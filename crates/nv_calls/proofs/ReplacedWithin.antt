-- A name that was given to another inode of its directory, which goes or loses a link: what is kept, the tree, and the logs.
use Rattle.std.proofs.Common.{◌≡◌, ◌≢◌, ℕ, ◌-◌, ◌/◌, Bool, true, false, inl, inr, List, ◌∷◌, remove, set, slice_get, refl, ap, sym, ◌∙◌, subst, Some, None}
use Rattle.std.specs.List.{Contains}
use Rattle.std.specs.Option.{option_map}
use Rattle.nv_region.specs.Region.{Region}
use Rattle.nv_super.specs.declared.superblock.Super.{Super}
use Rattle.nv_super.specs.declared.faults.Fault.{Fault}
use Rattle.nv_super.specs.declared.owners.Run.{Run}
use Rattle.nv_super.specs.Order.{Rises}
use Rattle.nv_super.specs.Layout.{Layout}
use Rattle.nv_alloc.specs.FreeValue.{FreeLists}
use Rattle.nv_names.specs.Names.{name_at}
use Rattle.nv_radix.specs.Pages.{block_at}
use Rattle.nv_scan.specs.declared.piece.Row.{Row}
use Rattle.nv_rows.proofs.Places.{set_rising}
use Rattle.nv_cross_check.specs.Cross.{row_key}
use Rattle.nv_graph.specs.Step.{IsGoodName}
use Rattle.nv_mounted.specs.Held.{Held, Store}
use Rattle.nv_mounted.specs.Bytes.{byte_in}
use Rattle.nv_mounted.specs.Mounted.{IsMounted, ShowsSound}
use Rattle.nv_tree.specs.Path.{IsPathName, last_name}
use Rattle.nv_tree.specs.Tree.{Node, SameNode, SameTree, Tree, is_directory}
use Rattle.nv_tree.specs.Calls.{edit, put_node, with_links, with_name, without_name}
use Rattle.nv_tree.specs.Refusals.{is_directory_at}
use Rattle.nv_tree.specs.Replace.{Replaces, replaced}
use Rattle.nv_tree.proofs.Same.{edit_kept, links_kept, name_kept, no_name_kept, put_kept, same_transitive}
use Rattle.nv_paths.specs.ReplaceSpots.{IsReplaceSpot}
use Rattle.nv_paths.specs.Seen.{node_of, tree_of}
use Rattle.nv_steps.specs.LessNames.{GivesRow}
use Rattle.nv_steps.specs.Lessens.{LessensAt}
use Rattle.nv_steps.specs.NameEntries.{links_entries}
use Rattle.nv_steps.specs.Takes.{TakesWithin, take_entries}
use Rattle.nv_steps.proofs.NamesCounted.{as_many}
use Rattle.nv_steps.proofs.RowsAt.{other_set}
use Rattle.nv_calls.specs.LinkCalls.{ShowsBothGrew}
use Rattle.nv_calls.specs.Mount.{IsKept}
use Rattle.nv_calls.specs.RemoveCalls.{ShowsRemoved}
use Rattle.nv_calls.specs.ReplaceCalls.{ReplacesHere, keeps_others}
use Rattle.nv_calls.specs.ReplaceLogs.{TakesPlace, has_others}
use Rattle.nv_calls.proofs.BothMounted.{IsRight, both_bytes, both_kept, both_logs}
use Rattle.nv_calls.proofs.BothMounted as both_mounted
use Rattle.nv_calls.proofs.LessenedHeld.{lessen_right, stays_file}
use Rattle.nv_calls.proofs.LinkedTree.{counted_node}
use Rattle.nv_calls.proofs.ReplaceAt.{by_words, more_links}
use Rattle.nv_calls.proofs.ReplacedSpot.{apart_at, from_differs, goes_there, good, kind_there, links_there, places_are, replaces, rising, spot_at}
use Rattle.nv_calls.proofs.ReplacedTree.{replaced_gone, replaced_less}
use Rattle.nv_calls.proofs.RowsTree.{edit_twice, edits_swap, put_swaps, row_changed, row_gone, tree_stays}
use Rattle.nv_calls.proofs.TakenOut.{places_differ}
use Rattle.nv_calls.proofs.TakenRows.{bytes_kept, kept_then, mounted_some, was_taken}
use Rattle.nv_calls.proofs.TakenSpot.{spot_named, spot_taken}
use Rattle.nv_calls.proofs.TakenTree.{taken_node}

module _ {R : Region} {s : Super} {l : Layout} {rows : List Row} {free : FreeLists} {faults : List Fault} {read_only stopped : Bool} (kept : IsKept R s l rows free faults read_only stopped) (runs : stopped ≡ false) (writes : read_only ≡ false)
    {place source : ℕ} (target : ℕ) {name other : List ℕ} (moved there : Row) (moved_at : slice_get rows source ≡ Some moved) (there_at : slice_get rows target ≡ Some there) (spelled : IsPathName name) (spelled_other : IsPathName other) (first_old : List ℕ) (old : List (List ℕ)) (first : List ℕ) (rest : List (List ℕ))
    (spot : IsReplaceSpot (tree_of R rows) rows (first_old ∷ old) (first ∷ rest) place name source place other (Some there.inode)) (apart : moved.inode ≢ there.inode) where
  abbrev i : ℕ
  i = moved.inode

  abbrev names : List (List ℕ)
  names = first_old ∷ old

  abbrev others : List (List ℕ)
  others = first ∷ rest

  abbrev t : Tree
  t = tree_of R rows

  -- what is told of all rows at the place
  abbrev SpotAt : Row → Type 0
  SpotAt r = IsReplaceSpot t rows names others place name source place other (Some r.inode)

  spot_here : (r : Row) → slice_get rows target ≡ Some r → SpotAt r
  spot_here = spot_at kept runs writes target moved there moved_at there_at first_old old first rest spot apart

  apart_here : (r : Row) → slice_get rows target ≡ Some r → i ≢ r.inode
  apart_here = apart_at kept runs writes target moved there moved_at there_at first_old old first rest spot apart

  rises : Rises row_key rows
  rises = rising kept runs writes target moved there moved_at there_at first_old old first rest spot apart

  good_here : (q : List ℕ) → IsPathName q → (k : ℕ) (r : Row) → slice_get rows k ≡ Some r → IsGoodName l.sup r.inode q
  good_here = good kept runs writes target moved there moved_at there_at first_old old first rest spot apart

  replaces_here : (row : Row) → slice_get rows place ≡ Some row → (r : Row) → slice_get rows target ≡ Some r → Replaces t names others i r.inode row.inode row.inode
  replaces_here row at r r_at = replaces kept runs writes target moved there moved_at there_at first_old old first rest spot apart row at row at r r_at

  rows_differ : (row : Row) → slice_get rows place ≡ Some row → (r : Row) → slice_get rows target ≡ Some r → row.inode ≢ r.inode
  rows_differ = from_differs kept runs writes target moved there moved_at there_at first_old old first rest spot apart

  named_here : (row : Row) → slice_get rows place ≡ Some row → (r : Row) → slice_get rows target ≡ Some r → option_map (λ (x : ℕ × ℕ). x.0) (name_at row.names name) ≡ Some i
  named_here row at r r_at = spot_named R l rows target moved at at moved_at r_at names first rest (spot_here r r_at) (apart_here r r_at)

  taken_here : (row : Row) → slice_get rows place ≡ Some row → (r : Row) → slice_get rows target ≡ Some r → option_map (λ (x : ℕ × ℕ). x.0) (name_at row.names other) ≡ Some r.inode
  taken_here row at r r_at = spot_taken R l rows target moved at at moved_at r_at names first rest (spot_here r r_at) (apart_here r r_at)

  told_here : (row : Row) → slice_get rows place ≡ Some row → (r : Row) → slice_get rows target ≡ Some r → (a b d : ℕ) (node : Node) → TakesPlace t names others a b d d node → (i ≡ a) × (r.inode ≡ b) × (row.inode ≡ d) × (row.inode ≡ d) × (node_of R r ≡ node)
  told_here row at r r_at a b d node takes = places_are kept runs writes target moved there moved_at there_at first_old old first rest spot apart row at row at r r_at a b d d node takes

  -- what both steps make of the directory
  abbrev change : ℕ → Node → Node
  change time n = with_name other i time (without_name name time (without_name other time n))

  change_kept : (time : ℕ) (a b : Node) → SameNode a b → SameNode (change time a) (change time b)
  change_kept time a b same = name_kept other i time (without_name name time (without_name other time a)) (without_name name time (without_name other time b))
      (no_name_kept name time (without_name other time a) (without_name other time b) (no_name_kept other time a b same))

  -- and the tree machine
  one_by_one : (u : Tree) (d time : ℕ) → edit d (change time) u ≡ edit d (with_name (last_name others) i time) (edit d (without_name (last_name names) time) (edit d (without_name (last_name others) time) u))
  one_by_one u d time =
      let way = spot.way in
      let from = way.from in
      let to = way.to in
      edit_twice u d (with_name other i time) (λ n. without_name name time (without_name other time n))
      ∙ ap (edit d (with_name other i time)) (edit_twice u d (without_name name time) (without_name other time))
      ∙ (λ k. edit d (with_name (to.name_is k) i time) (edit d (without_name (from.name_is k) time) (edit d (without_name (to.name_is k) time) u)))

  -- ---- where it goes

  module _ {S : Region} {news : List Row} {mid : FreeLists} {cpu time : ℕ} {row now gone : Row} (at : slice_get rows place ≡ Some row) (gone_at : slice_get rows target ≡ Some gone) (step : TakesWithin R S l free mid cpu row now i gone.inode name other time) (put : news ≡ remove (set rows place now) target) (goes : keeps_others gone ≡ false) where
    gone_kept : {after : FreeLists} → GivesRow mid gone after → (later : Bool) → IsKept S s l news after faults read_only later
    gone_kept given later = kept_then kept runs writes target moved at moved_at gone_at step put names first rest (spot_here gone gone_at) (good_here name spelled source moved moved_at) (good_here other spelled_other source moved moved_at) (good_here other spelled_other target gone gone_at) (apart_here gone gone_at) goes given later

    pub gone_some : (held : Store) (m : IsMounted R l held rows free.pools) → (then : Store) × (lists : List (List Run)) × IsMounted S l then news lists
    gone_some held m =
        let w = mounted_some kept runs writes target moved at moved_at gone_at step put names first rest (spot_here gone gone_at) (good_here name spelled source moved moved_at) (good_here other spelled_other source moved moved_at) (good_here other spelled_other target gone gone_at) (apart_here gone gone_at) goes held m in
        (_, w.0, w.1)

    gone_log : (held : Store) (g : Held) → ShowsSound R l held → held row.inode ≡ Some g → ShowsRemoved S l free.pools cpu held row.inode g (take_entries i gone.inode name other time) gone.inode
    gone_log held g sound is = was_taken kept runs writes target moved at moved_at gone_at step put names first rest (spot_here gone gone_at) (good_here name spelled source moved moved_at) (good_here other spelled_other source moved moved_at) (good_here other spelled_other target gone gone_at) (apart_here gone gone_at) goes held g sound is

    pub gone_last : (a b d : ℕ) (node : Node) (held : Store) (h : Held) → TakesPlace t names others a b d d node → ShowsSound R l held → held d ≡ Some h → ShowsRemoved S l free.pools cpu held d h (take_entries a b (last_name names) (last_name others) time) b
    gone_last a b d node held h takes sound is =
        let w = told_here row at gone gone_at a b d node takes in
        let way = spot.way in
        let from = way.from in
        let to = way.to in
        by_words (λ (c e : ℕ) (q o : List ℕ) (k : ℕ). ShowsRemoved S l free.pools cpu held k h (take_entries c e q o time) e) w.0 w.1 from.name_is to.name_is w.2 (gone_log held h sound (ap held w.2 ∙ is))

    -- it had no other names
    pub gone_others : (a b d : ℕ) (node : Node) → TakesPlace t names others a b d d node → has_others node ≡ true → ⊥
    gone_others a b d node takes on =
        let w = told_here row at gone gone_at a b d node takes in
        let clash : false ≡ true = sym goes ∙ ap has_others w.4 ∙ on in
        cc

    bytes : (r : Row) → Contains rows r → (x : ℕ) → byte_in S (block_at r.index (x / 4096)) x ≡ byte_in R (block_at r.index (x / 4096)) x
    bytes = bytes_kept kept runs writes target moved at moved_at gone_at step put names first rest (spot_here gone gone_at) (good_here name spelled source moved moved_at) (good_here other spelled_other source moved moved_at) (good_here other spelled_other target gone gone_at) (apart_here gone gone_at) goes

    differ : row.inode ≢ gone.inode
    differ = rows_differ row at gone gone_at

    pub gone_tree : SameTree (tree_of S news) (replaced names others time t)
    gone_tree =
        let has = step.row in
        let set_there : slice_get (set rows place now) target ≡ Some gone = other_set rows place target now (places_differ rows place target row gone at gone_at differ) ∙ gone_at in
        let node = taken_node S S step.fresh _ _ name other i gone.inode time has (apart_here gone gone_at) (named_here row at gone gone_at) (taken_here row at gone gone_at) (λ x. refl) in
        let changed : SameTree (tree_of S (set rows place now)) (edit row.inode (change time) t) = same_transitive (tree_of S (set rows place now)) (edit row.inode (change time) (tree_of S rows)) (edit row.inode (change time) t)
        (row_changed S rows rises place row at now (change time) has.inode node) (edit_kept (tree_of S rows) t row.inode (change time) (change time) (change_kept time) (tree_stays R S rows bytes)) in
        let went : SameTree (tree_of S (remove (set rows place now) target)) (put_node gone.inode None (edit row.inode (change time) t)) = same_transitive (tree_of S (remove (set rows place now) target)) (put_node gone.inode None (tree_of S (set rows place now))) (put_node gone.inode None (edit row.inode (change time) t))
        (row_gone S (set rows place now) (set_rising rows place row now rises at has.inode) target gone set_there) (put_kept (tree_of S (set rows place now)) (edit row.inode (change time) t) gone.inode None None tt changed) in
        let made : put_node gone.inode None (edit row.inode (change time) t) ≡ replaced names others time t = put_swaps t gone.inode row.inode None (change time) differ ∙ one_by_one (put_node gone.inode None t) row.inode time ∙ sym (replaced_gone time (replaces_here row at gone gone_at) (goes_there kept runs writes target moved there moved_at there_at first_old old first rest spot apart gone gone_at goes)) in
        subst (λ (rs : List Row). SameTree (tree_of S rs) (replaced names others time t)) (sym put) (subst (λ (u : Tree). SameTree (tree_of S (remove (set rows place now) target)) u) made went)

  -- ---- where it has other names

  module _ {S : Region} {news : List Row} {after : FreeLists} {cpu time : ℕ} (step : LessensAt R S l free after cpu rows news place target i name other time) (stays : keeps_others step.file ≡ true) where
    abbrev file : Row
    file = step.file

    abbrev row : Row
    row = step.directory

    abbrev links : ℕ
    links = step.file.numbers.links

    at : slice_get rows place ≡ Some row
    at = let both = step.step in both.at

    file_at : slice_get rows target ≡ Some file
    file_at = let both = step.step in both.other_at

    right : IsRight R l free rows row (take_entries i file.inode name other time) step.step.fresh step.step.first_now file (links_entries (links - 1) time) step.step.more step.step.second_now
    right = lessen_right moved moved_at step names first rest (spot_here file file_at) (good_here name spelled source moved moved_at) (good_here other spelled_other source moved moved_at) (good_here other spelled_other target file file_at) (apart_here file file_at) stays

    less_differ : row.inode ≢ file.inode
    less_differ = rows_differ row at file file_at

    less_kept : (later : Bool) → IsKept S s l news after faults read_only later
    less_kept = both_kept kept runs writes step.step less_differ right

    pub less_mounted : (held : Store) (m : IsMounted R l held rows free.pools) → (then : Store) × IsMounted S l then news after.pools
    less_mounted held m = (_, both_mounted.mounted_then kept runs writes step.step less_differ right held m)

    less_logs : (held : Store) (a b : Held) → ShowsSound R l held → held row.inode ≡ Some a → held file.inode ≡ Some b → ShowsBothGrew S l free.pools cpu held row.inode a (take_entries i file.inode name other time) file.inode b (links_entries (links - 1) time)
    less_logs = both_logs kept runs writes step.step less_differ right

    pub less_more : (a b d : ℕ) (node : Node) (held : Store) (h f : Held) → TakesPlace t names others a b d d node → ShowsSound R l held → held d ≡ Some h → held b ≡ Some f
        → ShowsBothGrew S l free.pools cpu held d h (take_entries a b (last_name names) (last_name others) time) b f (links_entries (node.links - 1) time)
    less_more a b d node held h f takes sound is other_is =
        let w = told_here row at file file_at a b d node takes in
        let way = spot.way in
        let from = way.from in
        let to = way.to in
        subst (λ (m : Node). ShowsBothGrew S l free.pools cpu held d h (take_entries a b (last_name names) (last_name others) time) b f (links_entries (m.links - 1) time)) w.4
        (by_words (λ (c e : ℕ) (q o : List ℕ) (k : ℕ). ShowsBothGrew S l free.pools cpu held k h (take_entries c e q o time) e f (links_entries (links - 1) time)) w.0 w.1 from.name_is to.name_is w.2 (less_logs held h f sound (ap held w.2 ∙ is) (ap held w.1 ∙ other_is)))

    -- it has other names
    pub less_others : (a b d : ℕ) (node : Node) → TakesPlace t names others a b d d node → has_others node ≡ false → ⊥
    less_others a b d node takes off =
        let w = told_here row at file file_at a b d node takes in
        let clash : true ≡ false = sym stays ∙ ap has_others w.4 ∙ off in
        cc

    less_bytes : (r : Row) → Contains rows r → (x : ℕ) → byte_in S (block_at r.index (x / 4096)) x ≡ byte_in R (block_at r.index (x / 4096)) x
    less_bytes = both_bytes kept runs writes step.step less_differ right

    pub less_tree : SameTree (tree_of S news) (replaced names others time t)
    less_tree =
        let both = step.step in
        let has = both.is in
        let counts = both.other_is in
        let now = both.first_now in
        let other_now = both.second_now in
        let change_links : Node → Node = with_links (links - 1) time in
        let set_there : slice_get (set rows place now) target ≡ Some file = other_set rows place target now (places_differ rows place target row file at file_at less_differ) ∙ file_at in
        let node = taken_node S S both.fresh _ _ name other i file.inode time has (apart_here file file_at) (named_here row at file file_at) (taken_here row at file file_at) (λ x. refl) in
        let changed : SameTree (tree_of S (set rows place now)) (edit row.inode (change time) t) = same_transitive (tree_of S (set rows place now)) (edit row.inode (change time) (tree_of S rows)) (edit row.inode (change time) t)
        (row_changed S rows rises place row at now (change time) has.inode node) (edit_kept (tree_of S rows) t row.inode (change time) (change time) (change_kept time) (tree_stays R S rows less_bytes)) in
        let counted = counted_node S S both.more _ (links - 1) time counts (as_many file.names other_now.names both.other_once.0 both.other_once.1 counts.names) (λ x. refl) in
        let less : SameTree (tree_of S (set (set rows place now) target other_now)) (edit file.inode change_links (edit row.inode (change time) t)) = same_transitive (tree_of S (set (set rows place now) target other_now)) (edit file.inode change_links (tree_of S (set rows place now))) (edit file.inode change_links (edit row.inode (change time) t))
        (row_changed S (set rows place now) (set_rising rows place row now rises at has.inode) target file set_there other_now change_links counts.inode counted)
        (edit_kept (tree_of S (set rows place now)) (edit row.inode (change time) t) file.inode change_links change_links (links_kept (links - 1) (links - 1) time refl) changed) in
        let off : is_directory_at t file.inode ≡ false = kind_there kept runs writes target moved there moved_at there_at first_old old first rest spot apart file file_at ∙ ap is_directory (stays_file file stays) in
        let made : edit file.inode change_links (edit row.inode (change time) t) ≡ replaced names others time t = edits_swap t file.inode row.inode change_links (change time) less_differ ∙ one_by_one (edit file.inode change_links t) row.inode time
        ∙ sym (replaced_less time (replaces_here row at file file_at) off links (links_there kept runs writes target moved there moved_at there_at first_old old first rest spot apart file file_at) (more_links file stays)) in
        subst (λ (rs : List Row). SameTree (tree_of S rs) (replaced names others time t)) (sym both.put) (subst (λ (u : Tree). SameTree (tree_of S (set (set rows place now) target other_now)) u) made less)

  -- ---- in both cases

  module _ {S : Region} {news : List Row} {after : FreeLists} {cpu time : ℕ} (done : ReplacesHere R S l free after cpu rows news place target i name other time) where
    at_file : (step : LessensAt R S l free after cpu rows news place target i name other time) → slice_get rows target ≡ Some step.file
    at_file step = let both = step.step in both.other_at

    -- What is kept.
    pub here_kept : (later : Bool) → IsKept S s l news after faults read_only later
    here_kept later = by done where
      by : ReplacesHere R S l free after cpu rows news place target i name other time → IsKept S s l news after faults read_only later
      by (inl w) = less_kept w.1 (w.0 w.1.file (at_file w.1)) later
      by (inr w) = let step = w.1 in gone_kept step.at step.gone_at step.step step.put (w.0 step.gone step.gone_at) step.given later

    -- The tree is what the call makes of that of before.
    pub here_tree : SameTree (tree_of S news) (replaced names others time t)
    here_tree = by done where
      by : ReplacesHere R S l free after cpu rows news place target i name other time → SameTree (tree_of S news) (replaced names others time t)
      by (inl w) = less_tree w.1 (w.0 w.1.file (at_file w.1))
      by (inr w) = let step = w.1 in gone_tree step.at step.gone_at step.step step.put (w.0 step.gone step.gone_at)

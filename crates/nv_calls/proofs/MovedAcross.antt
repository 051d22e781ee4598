-- A name that went from one directory to another: what is kept, the tree, and the logs.
use Rattle.std.proofs.Common.{◌≡◌, ◌≢◌, ℕ, ◌%◌, ◌/◌, Bool, false, List, ◌∷◌, slice_get, take, ap, sym, ◌∙◌, subst, Option, Some, Result, Ok}
use Rattle.std.specs.List.{Contains}
use Rattle.std.specs.Option.{option_and_then, option_map}
use Rattle.nv_region.specs.Region.{Region}
use Rattle.nv_super.specs.declared.superblock.Super.{Super}
use Rattle.nv_super.specs.declared.faults.Fault.{Fault}
use Rattle.nv_super.specs.declared.kind.Kind.TheVariants.{Directory}
use Rattle.nv_super.specs.Layout.{Layout}
use Rattle.nv_super.proofs.Options.{some_is}
use Rattle.nv_alloc.specs.FreeValue.{FreeLists}
use Rattle.nv_entry.specs.declared.entry.Entry.{Entry}
use Rattle.nv_entry.specs.declared.entry.Entry.TheVariants.{Name}
use Rattle.nv_entry.specs.declared.entry.Operation.TheVariants.{Add, Remove}
use Rattle.nv_logpage.specs.Append.{end_of, needed, place_of}
use Rattle.nv_names.specs.Names.{name_at}
use Rattle.nv_radix.specs.Pages.{block_at}
use Rattle.nv_scan.specs.declared.piece.Row.{Row}
use Rattle.nv_graph.specs.Graph.{IsOfKind, Node}
use Rattle.nv_graph.specs.Graph as graph
use Rattle.nv_mounted.specs.Held.{Held, Store}
use Rattle.nv_mounted.specs.Blocks.{OwnsNew}
use Rattle.nv_mounted.specs.Bytes.{byte_in}
use Rattle.nv_mounted.specs.Graph.{graph_in, node_in, target_in}
use Rattle.nv_mounted.specs.Mounted.{IsFaultless, IsMounted, ShowsSound}
use Rattle.nv_graph.specs.Step.{IsGoodName}
use Rattle.nv_commit.specs.Extends.{extended, with_log}
use Rattle.nv_commit.proofs.Called.{moved_faultless}
use Rattle.nv_tree.specs.declared.refusal.Refusal.{Refusal}
use Rattle.nv_tree.specs.Path.{last_name}
use Rattle.nv_tree.specs.Tree.{SameTree, Tree, found, walk}
use Rattle.nv_tree.specs.Calls.{edit, on_ok, on_some, renamed, with_name, without_name}
use Rattle.nv_calls.specs.LinkCalls.{ShowsBothGrew}
use Rattle.nv_calls.specs.Mount.{IsKept}
use Rattle.nv_calls.specs.MoveCalls.{MovesAcross}
use Rattle.nv_paths.specs.MoveSpots.{IsMoveSpot}
use Rattle.nv_steps.specs.NameEntries.{name_entries}
use Rattle.nv_steps.specs.NewNames.{place_named}
use Rattle.nv_paths.specs.Seen.{tree_of}
use Rattle.nv_steps.specs.Steps.{ShowsRow}
use Rattle.nv_calls.proofs.BothMounted.{IsRight, both_bytes, both_kept, both_logs, mounted_then}
use Rattle.nv_calls.proofs.BothTree.{both_tree}
use Rattle.nv_calls.proofs.CreatedRows.{in_rows, name_absent}
use Rattle.nv_calls.proofs.CreatedTree.{named_node}
use Rattle.nv_graph.proofs.Ways.{passed_there, walked_there, way_to}
use Rattle.nv_calls.proofs.GraphPaths.{graph_agrees}
use Rattle.nv_calls.proofs.Kept.{rows_rise}
use Rattle.nv_calls.proofs.LinkedHeld.{absent_in}
use Rattle.nv_steps.proofs.NamedLogs.{lost_told, named_file, named_told}
use Rattle.nv_super.proofs.Members.{stands}
use Rattle.nv_calls.proofs.RemovedTree.{lost_node}

module _ {R S : Region} {l : Layout} {rows news : List Row} {free after : FreeLists} {cpu place target end : ℕ} {name other : List ℕ} {time : ℕ} (step : MovesAcross R S l free after cpu rows news place target end name other time) (names : List (List ℕ)) (first : List ℕ) (rest : List (List ℕ))
    (spot : IsMoveSpot (tree_of R rows) rows names (first ∷ rest) place name target end other) (good : IsGoodName l.sup step.moved.inode name) (good_other : IsGoodName l.sup step.moved.inode other) (differ : step.from.inode ≢ step.to.inode) where
  abbrev i : ℕ
  i = step.moved.inode

  abbrev from : Row
  from = step.from

  abbrev to : Row
  to = step.to

  abbrev cut : List Entry
  cut = name_entries Remove i name time

  abbrev put : List Entry
  put = name_entries Add i other time

  abbrev fresh_blocks : List ℕ
  fresh_blocks = step.step.fresh

  abbrev more_blocks : List ℕ
  more_blocks = step.step.more

  from_at : slice_get rows place ≡ Some from
  from_at = let both = step.step in both.at

  to_at : slice_get rows end ≡ Some to
  to_at = let both = step.step in both.other_at

  from_directory : from.kind ≡ Directory
  from_directory = let there = spot.from in (there.directory from from_at).1

  to_directory : to.kind ≡ Directory
  to_directory = let free_name = spot.spot in let in_directory = free_name.directory in (in_directory.row to to_at).1

  ended : walk (tree_of R rows) 1 (first ∷ rest) ≡ Ok to.inode
  ended = let free_name = spot.spot in let in_directory = free_name.directory in (in_directory.row to to_at).0

  named : option_map (λ (x : ℕ × ℕ). x.0) (name_at from.names name) ≡ Some i
  named = let there = spot.from in there.named from step.moved from_at step.moved_at

  module _ (held : Store) (h k : Held) (m : IsMounted R l held rows free.pools) (shows : ShowsRow R l held h from free) (shows_to : ShowsRow R l held k to free) where
    is_named : (graph_in l held).name from.inode name ≡ Some i
    is_named =
        let told = shows.told in
        ap (λ (o : Option Held). option_and_then (target_in l name) o) shows.holds ∙ ap (λ (o : Option (ℕ × ℕ)). option_map (λ (y : ℕ × ℕ). y.0) o) (sym (told.names name)) ∙ named

    outside : IsOfKind (graph_in l held) i Directory → Contains (graph.passed (graph_in l held) 1 (way_to (first ∷ rest))) i → ⊥
    outside of_kind c =
        let w = (in_rows m).each step.moved (stands rows target step.moved step.moved_at) in
        let told = w.2 in
        let same : node_in l w.0 ≡ of_kind.0 = some_is (node_in l w.0) of_kind.0 (option_map (node_in l) (held i)) (ap (λ (o : Option Held). option_map (node_in l) o) w.1) of_kind.1 in
        spot.apart step.moved step.moved_at (told.kind ∙ ap (λ (n : Node). n.kind) same ∙ of_kind.2)
        (subst (λ (xs : List ℕ). Contains xs i) (passed_there (graph_in l held) (tree_of R rows) (graph_agrees m) 1 first rest) c)

    faultless_then : OwnsNew l held from.inode (Some (extended h cut fresh_blocks)) → OwnsNew l (with_log held from.inode h cut fresh_blocks) to.inode (Some (extended k put more_blocks))
        → IsFaultless l (with_log (with_log held from.inode h cut fresh_blocks) to.inode k put more_blocks)
    faultless_then first_own then =
        let sound = shows.sound in
        let told = shows.told in
        let told_to = shows_to.told in
        let free_name = spot.spot in
        moved_faultless l held sound.faultless from.inode h shows.holds (sym told.kind ∙ from_directory) i name good (place_of fresh_blocks 0 h.tail (Name (record { operation = Remove; inode = i; time = time; name = name }))) time
        (end_of fresh_blocks 0 h.tail cut) (take (needed (h.tail % 4096) cut) fresh_blocks) to.inode other good_other (way_to (first ∷ rest)) is_named
        (walked_there (graph_in l held) (tree_of R rows) (graph_agrees m) 1 to.inode first rest ended) (absent_in {free = free} other m shows_to (stands rows end to to_at) (free_name.absent to to_at)) outside
        k shows_to.holds (sym told_to.kind ∙ to_directory) (λ e. differ (sym e)) (place_named more_blocks k.tail i other time) (end_of more_blocks 0 k.tail put) (take (needed (k.tail % 4096) put) more_blocks) first_own then

  -- What is owed of the call is so.
  pub moved_right : IsRight R l free rows from cut fresh_blocks step.step.first_now to put more_blocks step.step.second_now
  moved_right = record {
    number = (let both = step.step in let lost = both.is in lost.inode);
    other_number = (let both = step.step in let got = both.other_is in got.inode);
    stays = λ held h shows. named_file l i name time fresh_blocks shows.told from_directory good Remove;
    other_stays = λ held k shows. named_file l i other time more_blocks shows.told to_directory good_other Add;
    told = λ held h shows. (let both = step.step in lost_told l i name time fresh_blocks shows.told from_directory good both.count both.is);
    other_told = λ held k shows. (let both = step.step in named_told l i other time more_blocks shows.told to_directory good_other both.more_count both.other_is);
    faultless = λ held h k m shows shows_to. faultless_then held h k m shows shows_to;
  }

-- What `rename` makes of a tree, by the inode and both directories.
pub renamed_by : (names others : List (List ℕ)) (time : ℕ) (t : Tree) (i d e : ℕ) (name other : List ℕ) → found t names ≡ Some i → walk t 1 names ≡ Ok d → walk t 1 others ≡ Ok e → name ≡ last_name names → other ≡ last_name others
    → renamed names others time t ≡ edit e (with_name other i time) (edit d (without_name name time) t)
renamed_by names others time t i d e name other leads walked ended is other_is =
    ap (λ (o : Option ℕ). on_some o (λ k. on_ok (walk t 1 names) (λ a. on_ok (walk t 1 others) (λ b. edit b (with_name (last_name others) k time) (edit a (without_name (last_name names) time) t)) t) t) t) leads
    ∙ ap (λ (r : Result ℕ Refusal). on_ok r (λ a. on_ok (walk t 1 others) (λ b. edit b (with_name (last_name others) i time) (edit a (without_name (last_name names) time) t)) t) t) walked
    ∙ ap (λ (r : Result ℕ Refusal). on_ok r (λ b. edit b (with_name (last_name others) i time) (edit d (without_name (last_name names) time) t)) t) ended
    ∙ ap (λ (q : List ℕ). edit e (with_name (last_name others) i time) (edit d (without_name q time) t)) (sym is)
    ∙ ap (λ (q : List ℕ). edit e (with_name q i time) (edit d (without_name name time) t)) (sym other_is)

module _ {R S : Region} {s : Super} {l : Layout} {rows news : List Row} {free after : FreeLists} {faults : List Fault} {read_only stopped : Bool} (kept : IsKept R s l rows free faults read_only stopped) (runs : stopped ≡ false) (writes : read_only ≡ false)
    {cpu place target end : ℕ} {name other : List ℕ} {time : ℕ} (step : MovesAcross R S l free after cpu rows news place target end name other time) (names : List (List ℕ)) (first : List ℕ) (rest : List (List ℕ))
    (spot : IsMoveSpot (tree_of R rows) rows names (first ∷ rest) place name target end other) (good : IsGoodName l.sup step.moved.inode name) (good_other : IsGoodName l.sup step.moved.inode other) (differ : step.from.inode ≢ step.to.inode) where
  right : IsRight R l free rows step.from (name_entries Remove step.moved.inode name time) step.step.fresh step.step.first_now step.to (name_entries Add step.moved.inode other time) step.step.more step.step.second_now
  right = moved_right step names first rest spot good good_other differ

  -- What is mounted, for what is held of the region of before.
  pub across_mounted : (held : Store) (m : IsMounted R l held rows free.pools) → (then : Store) × IsMounted S l then news after.pools
  across_mounted held m = (_, mounted_then kept runs writes step.step differ right held m)

  -- What is kept.
  pub across_kept : (now : Bool) → IsKept S s l news after faults read_only now
  across_kept = both_kept kept runs writes step.step differ right

  bytes : (r : Row) → Contains rows r → (x : ℕ) → byte_in S (block_at r.index (x / 4096)) x ≡ byte_in R (block_at r.index (x / 4096)) x
  bytes = both_bytes kept runs writes step.step differ right

  -- The tree is what the call makes of that of before.
  pub across_tree : SameTree (tree_of S news) (renamed names (first ∷ rest) time (tree_of R rows))
  across_tree =
      let both = step.step in
      let lost = both.is in
      let got = both.other_is in
      let there = spot.from in
      let free_name = spot.spot in
      let in_directory = free_name.directory in
      let named = there.named step.from step.moved both.at step.moved_at in
      let changed = lost_node R S both.fresh _ name step.moved.inode time lost both.once.0 both.once.1 named (bytes step.from (stands rows place step.from both.at)) in
      let other_changed = named_node R S both.more _ other step.moved.inode _ time got both.other_once.0 both.other_once.1 (name_absent kept runs writes step.to (stands rows end step.to both.other_at) other (free_name.absent step.to both.other_at)) (bytes step.to (stands rows end step.to both.other_at)) in
      let same = both_tree R S rows place end step.from both.first_now step.to both.second_now (rows_rise R s l rows free faults read_only stopped kept runs) both.at both.other_at lost.inode got.inode differ (without_name name time) (with_name other step.moved.inode time) changed other_changed bytes in
      let made = renamed_by names (first ∷ rest) time (tree_of R rows) step.moved.inode step.from.inode step.to.inode name other (there.leads step.moved step.moved_at) (there.directory step.from both.at).0 (in_directory.row step.to both.other_at).0 there.name_is in_directory.name_is in
      subst (λ (t : Tree). SameTree (tree_of S news) t) (sym made) (subst (λ (rs : List Row). SameTree (tree_of S rs) (edit step.to.inode (with_name other step.moved.inode time) (edit step.from.inode (without_name name time) (tree_of R rows)))) (sym both.put) same)

  -- The logs, for whatever is held of the region.
  pub across_logs : (held : Store) (h k : Held) → ShowsSound R l held → held step.from.inode ≡ Some h → held step.to.inode ≡ Some k → ShowsBothGrew S l free.pools cpu held step.from.inode h (name_entries Remove step.moved.inode name time) step.to.inode k (name_entries Add step.moved.inode other time)
  across_logs held h k sound is other_is = both_logs kept runs writes step.step differ right held h k sound is other_is

-- A name that became another in its directory: what is held, what is kept, the tree, and the log.
use Rattle.std.proofs.Common.{◌≡◌, ℕ, ◌+◌, ◌%◌, ◌/◌, cond, nat_eq, Bool, false, List, ◌∷◌, set, slice_get, take, ap, sym, ◌∙◌, subst, arith, refl, Option, Some, None, Ok}
use Rattle.std.specs.Cmp.Lexicographic.{pointwise}
use Rattle.std.specs.List.{Contains}
use Rattle.std.specs.Option.{option_and_then, option_map}
use Rattle.std.proofs.Math.Logic.{∥∥₁_elim}
use Rattle.std.proofs.Math.Nat.{ℕ_set}
use Rattle.std.proofs.Props.{props}
use Rattle.nv_region.specs.Region.{Region}
use Rattle.nv_super.specs.declared.superblock.Super.{Super}
use Rattle.nv_super.specs.declared.faults.Fault.{Fault}
use Rattle.nv_super.specs.declared.kind.Kind.TheVariants.{Directory}
use Rattle.nv_super.specs.Layout.{Layout}
use Rattle.nv_super.proofs.Options.{some_is}
use Rattle.nv_alloc.specs.FreeValue.{FreeLists}
use Rattle.nv_entry.specs.declared.entry.Entry.{Entry}
use Rattle.nv_entry.specs.declared.entry.Entry.TheVariants.{Name}
use Rattle.nv_entry.specs.declared.entry.Operation.TheVariants.{Remove}
use Rattle.nv_logpage.specs.Append.{AreGiven, end_of, needed, place_of}
use Rattle.nv_names.specs.Names.{name_at}
use Rattle.nv_radix.specs.Pages.{block_at}
use Rattle.nv_scan.specs.declared.numbers.Numbers.{Numbers}
use Rattle.nv_scan.specs.declared.piece.Row.{Row}
use Rattle.nv_graph.specs.Graph.{IsOfKind, Node}
use Rattle.nv_graph.specs.Graph as graph
use Rattle.nv_mounted.specs.Held.{Held, Store}
use Rattle.nv_mounted.specs.Bytes.{byte_in}
use Rattle.nv_mounted.specs.Graph.{graph_in, node_in, target_in}
use Rattle.nv_mounted.specs.Mounted.{IsFaultless, IsMounted, KeepsRow, ShowsSound}
use Rattle.nv_mounted.proofs.Fronts.{sound_moves}
use Rattle.nv_mounted.proofs.Growing.{free_but, grown_owns}
use Rattle.nv_graph.specs.Step.{IsGoodName}
use Rattle.nv_commit.specs.Extends.{CanExtend, extended, with_log}
use Rattle.nv_commit.proofs.Called.{either_none, moved_here_faultless}
use Rattle.nv_tree.specs.Tree.{SameNode, SameTree, Tree, walk}
use Rattle.nv_tree.specs.Tree as tree
use Rattle.nv_tree.specs.Calls.{renamed, with_name, without_name}
use Rattle.nv_calls.specs.GrownLogs.{ShowsGrownLog}
use Rattle.nv_paths.specs.MoveSpots.{IsMoveSpot}
use Rattle.nv_steps.specs.Moves.{MovesWithin, move_entries, move_place}
use Rattle.nv_calls.specs.Mount.{IsKept}
use Rattle.nv_paths.specs.Spots.{IsNoneNamed}
use Rattle.nv_paths.specs.Seen.{node_of, tree_of}
use Rattle.nv_steps.specs.Steps.{LogFollows, ShowsRow}
use Rattle.nv_calls.proofs.CreatedRows.{in_rows, name_absent}
use Rattle.nv_calls.proofs.CreatedTree.{first_of}
use Rattle.nv_graph.proofs.Ways.{passed_there, walked_there, way_to}
use Rattle.nv_calls.proofs.GraphPaths.{graph_agrees}
use Rattle.nv_calls.proofs.LinkedHeld.{absent_in}
use Rattle.nv_steps.proofs.LogGrows.{can_extend, count_held, extended_bytes, fresh_free, pages_now, pages_once}
use Rattle.nv_calls.proofs.MovedAcross.{renamed_by}
use Rattle.nv_calls.proofs.HandedRow.{handed_told}
use Rattle.nv_calls.proofs.MovedEntries.{moved_file}
use Rattle.nv_calls.proofs.Mounts.{mounted_with}
use Rattle.nv_steps.proofs.NamesCounted.{one_less, one_more}
use Rattle.nv_super.proofs.Members.{stands}
use Rattle.nv_steps.specs.Slots.{slot_in}
use Rattle.nv_calls.proofs.RemovedTree.{none_of}
use Rattle.nv_calls.proofs.RowChange.{kept_after, log_grew, mounted_after, row_bytes, tree_after}
use Rattle.nv_calls.proofs.RowsTree.{edit_twice}
use Rattle.nv_steps.proofs.TakenBlocks.{lists_without, taken_sup}
use Rattle.nv_steps.proofs.OneByOne.{by_rule}

module _ {R S : Region} {s : Super} {l : Layout} {rows : List Row} {free after : FreeLists} {faults : List Fault} {read_only stopped : Bool} (kept : IsKept R s l rows free faults read_only stopped) (runs : stopped ≡ false) (writes : read_only ≡ false)
    {cpu place target : ℕ} {name other : List ℕ} {time : ℕ} {row new : Row} (moved : Row) (at : slice_get rows place ≡ Some row) (moved_at : slice_get rows target ≡ Some moved) (step : MovesWithin R S l free after cpu row new moved.inode name other time) (names : List (List ℕ)) (first : List ℕ) (rest : List (List ℕ))
    (spot : IsMoveSpot (tree_of R rows) rows names (first ∷ rest) place name target place other) (good : IsGoodName l.sup moved.inode name) (good_other : IsGoodName l.sup moved.inode other) where
  abbrev i : ℕ
  i = moved.inode

  abbrev entries : List Entry
  entries = move_entries i name other time

  abbrev fresh : List ℕ
  fresh = step.fresh

  is_directory : row.kind ≡ Directory
  is_directory = let there = spot.from in (there.directory row at).1

  walked : walk (tree_of R rows) 1 (first ∷ rest) ≡ Ok row.inode
  walked = let free_name = spot.spot in let in_directory = free_name.directory in (in_directory.row row at).0

  named : option_map (λ (x : ℕ × ℕ). x.0) (name_at row.names name) ≡ Some i
  named = let there = spot.from in there.named row moved at moved_at

  absent : IsNoneNamed rows row other
  absent = let free_name = spot.spot in free_name.absent row at

  given : AreGiven entries
  given = (refl, (refl, tt))

  module _ (held : Store) (h : Held) (shows : ShowsRow R l held h row free) where
    of_kind : h.kind ≡ Directory
    of_kind = let told = shows.told in sym told.kind ∙ is_directory

    abbrev removal_place : ℕ
    removal_place = place_of fresh 0 h.tail (Name (record { operation = Remove; inode = i; time = time; name = name }))

    abbrev addition_place : ℕ
    addition_place = move_place fresh h.tail i name other time

    abbrev end : ℕ
    end = end_of fresh 0 h.tail entries

    abbrev pages : List ℕ
    pages = take (needed (h.tail % 4096) entries) fresh

    can : CanExtend R l held row.inode h (slot_in l row.inode) row.tail entries fresh
    can = can_extend entries shows kept.lists step.taken step.count given (omega arith)

    is_named : (graph_in l held).name row.inode name ≡ Some i
    is_named =
        let told = shows.told in
        ap (λ (o : Option Held). option_and_then (target_in l name) o) shows.holds ∙ ap (λ (o : Option (ℕ × ℕ)). option_map (λ (y : ℕ × ℕ). y.0) o) (sym (told.names name)) ∙ named

    known : ∥ (IsMounted R l held rows free.pools) ∥₁
    known = mounted_with kept runs held shows.sound

    leads : graph.walked (graph_in l held) 1 (way_to (first ∷ rest)) ≡ Some row.inode
    leads = ∥∥₁_elim known (hlevel (props, ℕ_set)) (λ m. walked_there (graph_in l held) (tree_of R rows) (graph_agrees m) 1 row.inode first rest walked)

    not_there : (graph_in l held).name row.inode other ≡ None
    not_there = ∥∥₁_elim known (hlevel (props, ℕ_set)) (λ m. absent_in {free = free} other m shows (stands rows place row at) absent)

    outside : IsOfKind (graph_in l held) i Directory → Contains (graph.passed (graph_in l held) 1 (way_to (first ∷ rest))) i → ⊥
    outside of_node c = ∥∥₁_elim known (hlevel (props, ℕ_set)) (λ m.
        let w = (in_rows m).each moved (stands rows target moved moved_at) in
        let told = w.2 in
        let same : node_in l w.0 ≡ of_node.0 = some_is (node_in l w.0) of_node.0 (option_map (node_in l) (held i)) (ap (λ (o : Option Held). option_map (node_in l) o) w.1) of_node.1 in
        spot.apart moved moved_at (told.kind ∙ ap (λ (n : Node). n.kind) same ∙ of_node.2)
        (subst (λ (xs : List ℕ). Contains xs i) (passed_there (graph_in l held) (tree_of R rows) (graph_agrees m) 1 first rest) c))

    faultless : IsFaultless l (with_log held row.inode h entries fresh)
    faultless =
        let sound = shows.sound in
        let right = sound.faultless in
        moved_here_faultless l held right row.inode h shows.holds of_kind i name good removal_place time end pages row.inode other good_other (way_to (first ∷ rest)) is_named leads not_there outside refl addition_place
        (grown_owns l held row.inode h (extended h entries fresh) shows.holds fresh (pages_now entries shows kept.lists step.taken step.count given (omega arith)) (fresh_free entries shows kept.lists step.taken step.count given (omega arith))
        (moved_file l h of_kind i i name other good good_other removal_place addition_place time end pages) right.undoubled (pages_once {S = S} can (step.moved held h can)))

    -- The row is of its log.
    told_now : KeepsRow l (extended h entries fresh) new
    told_now = handed_told l i i name other time fresh shows.told is_directory good good_other step.count step.row

    -- The log has grown by both entries.
    follows : LogFollows R S l held h entries free.pools cpu row new after
    follows =
        let shown = step.moved held h can in
        let has = step.row in
        record {
          fresh = fresh;
          rest = after.pools;
          taken = by_rule step.taken;
          blocks = fresh_free entries shows kept.lists step.taken step.count given (omega arith);
          count = count_held entries shows kept.lists step.taken step.count given (omega arith);
          sound = sound_moves R S l held (with_log held row.inode h entries fresh) shows.sound shown.front shown.shows faultless;
          told = told_now;
          inode = has.inode;
          lists = lists_without step.taken l held shows.lists kept.lists (with_log held row.inode h entries fresh)
              (free_but l held row.inode h (extended h entries fresh) shows.holds fresh (pages_now entries shows kept.lists step.taken step.count given (omega arith)) (fresh_free entries shows kept.lists step.taken step.count given (omega arith))
              (moved_file l h of_kind i i name other good good_other removal_place addition_place time end pages));
          bytes = extended_bytes can step.mixed;
        }

  -- What is mounted, for what is held of the region of before.
  pub within_mounted : (held : Store) → IsMounted R l held rows free.pools → (then : Store) × IsMounted S l then (set rows place new) after.pools
  within_mounted = mounted_after kept runs writes place row new at entries follows

  -- What is kept.
  pub within_kept : (now : Bool) → IsKept S s l (set rows place new) after faults read_only now
  within_kept = kept_after kept runs writes place row new at entries follows (taken_sup step.taken)

  -- The log, for whatever is held of the region.
  pub within_log : (held : Store) (h : Held) → ShowsSound R l held → held row.inode ≡ Some h → ShowsGrownLog S l free.pools cpu held row.inode h entries
  within_log = log_grew kept runs writes place row new at entries follows

  bytes : (r : Row) → Contains rows r → (x : ℕ) → byte_in S (block_at r.index (x / 4096)) x ≡ byte_in R (block_at r.index (x / 4096)) x
  bytes = row_bytes kept runs writes place row new at entries follows

  -- The directory shows the other name in place of the name.
  moved_node : SameNode (node_of S new) (with_name other i time (without_name name time (node_of R row)))
  moved_node =
      let has = step.row in
      let less = one_less row.names has.between name i has.once has.once_between named has.lost in
      let gone : name_at has.between other ≡ None = has.lost other ∙ either_none (pointwise nat_eq other name) (name_at row.names other) (name_absent kept runs writes row (stands rows place row at) other absent) in
      let more = one_more has.between new.names other (i, _) has.once_between has.once_now gone has.names in
      record {
        kind = has.kind;
        mode = ap (λ (n : Numbers). n.mode) has.numbers;
        owner = ap (λ (n : Numbers). n.owner) has.numbers;
        group = ap (λ (n : Numbers). n.group) has.numbers;
        size = ap (λ (n : Numbers). n.size) has.numbers;
        links = ap (λ (n : Numbers). n.links) has.numbers;
        time = ap (λ (n : Numbers). n.time) has.numbers;
        count = more ∙ ap (λ (n : ℕ). n + 1) less;
        names = λ q. ap (λ (o : Option (ℕ × ℕ)). option_map (λ (y : ℕ × ℕ). y.0) o) (has.names q) ∙ first_of (pointwise nat_eq q other) (i, _) (name_at has.between q)
            ∙ ap (λ (o : Option ℕ). cond (pointwise nat_eq q other) (Some i) o) (ap (λ (o : Option (ℕ × ℕ)). option_map (λ (y : ℕ × ℕ). y.0) o) (has.lost q) ∙ none_of (pointwise nat_eq q name) (name_at row.names q));
        bytes = λ x below. ap (λ (o : Option ℕ). byte_in S o x) (has.index (x / 4096)) ∙ bytes row (stands rows place row at) x;
      }

  -- The tree is what the call makes of that of before.
  pub within_tree : tree.SameTree (tree_of S (set rows place new)) (renamed names (first ∷ rest) time (tree_of R rows))
  within_tree =
      let has = step.row in
      let there = spot.from in
      let free_name = spot.spot in
      let in_directory = free_name.directory in
      let same = tree_after kept runs writes place row new at entries follows (λ n. with_name other i time (without_name name time n)) has.inode moved_node in
      let made = renamed_by names (first ∷ rest) time (tree_of R rows) i row.inode row.inode name other (there.leads moved moved_at) (there.directory row at).0 walked there.name_is in_directory.name_is in
      subst (λ (t : Tree). SameTree (tree_of S (set rows place new)) t) (edit_twice (tree_of R rows) row.inode (with_name other i time) (without_name name time) ∙ sym made) same

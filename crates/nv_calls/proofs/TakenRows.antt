-- A mounted file system once a name was given to another inode of its directory, and the first one is gone: what it keeps.
use Rattle.std.proofs.Common.{◌≡◌, ◌≢◌, ℕ, ◌/◌, ◌%◌, Bool, false, List, ◌∷◌, length, remove, set, slice_get, ap, sym, ◌∙◌, subst, Some}
use Rattle.std.specs.List.{Contains}
use Rattle.std.proofs.Math.Logic.{∥∥₁_map}
use Rattle.std.proofs.lemmas.Option.{slice_get_within}
use Rattle.nv_region.specs.Region.{Region}
use Rattle.nv_super.specs.declared.superblock.Super.{Super}
use Rattle.nv_super.specs.declared.faults.Fault.{Fault}
use Rattle.nv_super.specs.declared.kind.Kind.TheVariants.{Directory}
use Rattle.nv_super.specs.Layout.{Layout}
use Rattle.nv_super.specs.declared.owners.Run.{Run}
use Rattle.nv_super.proofs.Members.{stands}
use Rattle.nv_alloc.specs.FreeValue.{FreeLists}
use Rattle.nv_entry.specs.declared.entry.Entry.{Entry}
use Rattle.nv_logpage.specs.Append.{needed}
use Rattle.nv_radix.specs.Pages.{block_at}
use Rattle.nv_scan.specs.declared.piece.Row.{Row}
use Rattle.nv_rows.proofs.Places.{number_at}
use Rattle.nv_graph.specs.Step.{IsGoodName}
use Rattle.nv_mounted.specs.Held.{Held, Store}
use Rattle.nv_mounted.specs.Bytes.{byte_in, byte_of}
use Rattle.nv_mounted.specs.Mounted.{IsMounted, KeepsRows, ShowsSound}
use Rattle.nv_mounted.proofs.Closes.{outcome_kept}
use Rattle.nv_outcome.proofs.Exists.{has_outcome}
use Rattle.nv_mounted.proofs.RowsKept.{rows_follow, rows_less}
use Rattle.nv_commit.specs.Extends.{extended, with_log}
use Rattle.nv_commit.specs.ReplacedNames.{CanTakeName}
use Rattle.nv_paths.specs.ReplaceSpots.{IsReplaceSpot}
use Rattle.nv_paths.specs.Seen.{tree_of}
use Rattle.nv_steps.specs.LessNames.{GivesRow}
use Rattle.nv_steps.specs.NameEntries.{with_gone}
use Rattle.nv_steps.specs.Steps.{ShowsRow}
use Rattle.nv_steps.specs.Takes.{TakesWithin, take_entries}
use Rattle.nv_steps.proofs.GivenPages.{joined_sup}
use Rattle.nv_steps.proofs.OneByOne.{by_rule}
use Rattle.nv_steps.proofs.RowsAt.{other_set}
use Rattle.nv_steps.proofs.TakenBlocks.{taken_sup}
use Rattle.nv_calls.specs.AtPlaces.{CanGo}
use Rattle.nv_calls.specs.Mount.{IsKept}
use Rattle.nv_calls.specs.RemoveCalls.{ShowsRemoved, WasRemoved}
use Rattle.nv_calls.specs.ReplaceCalls.{keeps_others}
use Rattle.nv_graph.proofs.Ways.{way_to}
use Rattle.nv_calls.proofs.Mounts.{bytes_stay, kept_of_mounted, mounted_of_kept, mounted_with}
use Rattle.nv_calls.proofs.OneRow.{shows_row}
use Rattle.nv_calls.proofs.TakenHeld.{takes_apart, takes_free, takes_lists, takes_sound}
use Rattle.nv_calls.proofs.TakenRow.{takes_told}
use Rattle.nv_calls.proofs.TakenSpot.{can_take, spot_directory, spot_goes}
use Rattle.nv_calls.proofs.TakenOut.{another, places_differ, stays_there, still_rise, was_there}

module _ {R S : Region} {s : Super} {l : Layout} {rows news : List Row} {free mid : FreeLists} {faults : List Fault} {read_only stopped : Bool} (kept : IsKept R s l rows free faults read_only stopped) (runs : stopped ≡ false) (writes : read_only ≡ false)
    {cpu place source : ℕ} (target : ℕ) {name other : List ℕ} {time : ℕ} {row now gone : Row} (moved : Row) (at : slice_get rows place ≡ Some row) (moved_at : slice_get rows source ≡ Some moved) (gone_at : slice_get rows target ≡ Some gone)
    (step : TakesWithin R S l free mid cpu row now moved.inode gone.inode name other time) (put : news ≡ remove (set rows place now) target) (names : List (List ℕ)) (first : List ℕ) (rest : List (List ℕ))
    (spot : IsReplaceSpot (tree_of R rows) rows names (first ∷ rest) place name source place other (Some gone.inode)) (good : IsGoodName l.sup moved.inode name) (good_other : IsGoodName l.sup moved.inode other) (good_there : IsGoodName l.sup gone.inode other)
    (apart : moved.inode ≢ gone.inode) (goes : keeps_others gone ≡ false) where
  abbrev i : ℕ
  i = moved.inode

  abbrev j : ℕ
  j = gone.inode

  abbrev entries : List Entry
  entries = take_entries i j name other time

  abbrev here : Contains rows row
  here = stands rows place row at

  is_directory : row.kind ≡ Directory
  is_directory = spot_directory R l rows target moved at at moved_at gone_at names first rest spot apart

  -- what is held, and what it shows of both
  module _ (held : Store) (m : IsMounted R l held rows free.pools) where
    abbrev pub h : Held
    h = (shows_row {free = free} m kept.lists row here).0

    shows : ShowsRow R l held h row free
    shows = (shows_row {free = free} m kept.lists row here).1

    abbrev f : Held
    f = (shows_row {free = free} m kept.lists gone (stands rows target gone gone_at)).0

    shows_gone : ShowsRow R l held f gone free
    shows_gone = (shows_row {free = free} m kept.lists gone (stands rows target gone gone_at)).1

    of_kind : h.kind ≡ Directory
    of_kind = let told = shows.told in sym told.kind ∙ is_directory

    can_go : CanGo gone
    can_go = spot_goes R l rows target moved at at moved_at gone_at names first rest spot apart free m goes

    can : CanTakeName l held row.inode h name (way_to (first ∷ rest)) row.inode h other i j f
    can = can_take R l rows target moved at at moved_at gone_at names first rest spot apart free m shows shows shows_gone good good_other good_there

    count : length step.fresh ≡ needed (h.tail % 4096) entries
    count = let told = shows.told in step.count ∙ ap (λ (t : ℕ). needed (t % 4096) entries) told.tail

    rows_apart : row.inode ≢ j
    rows_apart = takes_apart i name other time (way_to (first ∷ rest)) step.fresh shows shows_gone of_kind can can_go kept.lists step.taken count

    abbrev then : Store
    then = with_gone held row.inode h entries step.fresh j

    sound_then : ShowsSound S l then
    sound_then = let seen = step.shows held h shows in takes_sound i name other time (way_to (first ∷ rest)) step.fresh shows shows_gone of_kind can can_go kept.lists step.taken count seen.idle

    bytes_then : (k : ℕ) (g : Held) → held k ≡ Some g → (x : ℕ) → byte_of S l g x ≡ byte_of R l g x
    bytes_then = let seen = step.shows held h shows in seen.bytes

    rows_then : KeepsRows l then news
    rows_then =
        let keeps = m.keeps in
        let has = step.row in
        let inside = slice_get_within rows place row at in
        let told = takes_told l i j name other time step.fresh shows.told is_directory good good_there good_other step.count has in
        let follow = rows_follow l held row.inode (extended h entries step.fresh) rows keeps.in_rows place inside now (number_at rows place row now at) has.inode told in
        let there : slice_get (set rows place now) target ≡ Some gone = other_set rows place target now (places_differ rows place target row gone at gone_at rows_apart) ∙ gone_at in
        let left = rows_less l (with_log held row.inode h entries step.fresh) j (set rows place now) (remove (set rows place now) target) follow (still_rise (set rows place now) target follow.rising)
        (λ r c. (was_there (set rows place now) target r c, another (set rows place now) target gone r follow.rising there c)) (λ r c another_one. stays_there (set rows place now) target gone r there c another_one) in
        subst (λ (rs : List Row). KeepsRows l then rs) (sym put) left

    -- The rows and the free lists are those of what is held.
    mounted_then : {after : FreeLists} → GivesRow mid gone after → IsMounted S l then news after.pools
    mounted_then given =
        let seen = step.shows held h shows in
        record {
          sound = sound_then;
          keeps = record {
            in_rows = rows_then;
            in_lists = takes_lists i name other time (way_to (first ∷ rest)) step.fresh shows shows_gone of_kind can can_go kept.lists step.taken count seen.idle given;
          };
        }

    -- And there are such free lists.
    pub mounted_some : (lists : List (List Run)) × IsMounted S l then news lists
    mounted_some =
        let w = has_outcome S l.sup sound_then.sup in
        let keeps = outcome_kept sound_then w.0 w.2 in
        (w.0.free, record { sound = sound_then; keeps = record { in_rows = rows_then; in_lists = keeps.in_lists } })

  lists_stay : {after : FreeLists} → GivesRow mid gone after → after.sup ≡ l.sup
  lists_stay {after} given = joined_sup mid after given.runs given.joined ∙ taken_sup step.taken ∙ kept.lists

  -- What is kept then.
  pub kept_then : {after : FreeLists} → GivesRow mid gone after → (later : Bool) → IsKept S s l news after faults read_only later
  kept_then {after} given later = kept_of_mounted S s l news after faults read_only later kept.tables kept.writes writes (lists_stay given) (∥∥₁_map (mounted_of_kept kept runs writes) (λ w. (with_gone w.0 row.inode (h w.0 w.1) entries step.fresh j, mounted_then w.0 w.1 given)))

  -- Each byte that a row's file had is where it was.
  pub bytes_kept : (r : Row) → Contains rows r → (x : ℕ) → byte_in S (block_at r.index (x / 4096)) x ≡ byte_in R (block_at r.index (x / 4096)) x
  bytes_kept = bytes_stay kept runs writes S bytes_then

  -- The log has the three entries and the inode is gone, for whatever is held of the region.
  pub was_taken : (held : Store) (g : Held) → ShowsSound R l held → held row.inode ≡ Some g → ShowsRemoved S l free.pools cpu held row.inode g entries j
  was_taken held g sound is = ∥∥₁_map (mounted_with kept runs held sound) (λ m.
      let shown = shows held m in
      let both : Some (h held m) ≡ Some g = sym shown.holds ∙ is in
      let same : h held m ≡ g = cc in
      subst (λ (k : Held). WasRemoved S l free.pools cpu held row.inode k entries j) same (record {
        fresh = step.fresh;
        rest = mid.pools;
        taken = by_rule step.taken;
        free = takes_free i name other time (way_to (first ∷ rest)) step.fresh shown (shows_gone held m) (of_kind held m) (can held m) (can_go held m) kept.lists step.taken (count held m);
        count = count held m;
        sound = sound_then held m;
      }))

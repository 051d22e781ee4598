-- A mounted file system once a name and its inode are gone: what it keeps.
use Rattle.std.proofs.Common.{◌≡◌, ◌≢◌, ℕ, ◌/◌, ◌%◌, Bool, false, List, length, remove, set, slice_get, ap, sym, ◌∙◌, subst, Option, Some}
use Rattle.std.specs.List.{Contains}
use Rattle.std.specs.Option.{option_and_then, option_map}
use Rattle.std.proofs.Math.Logic.{∥∥₁_elim, ∥∥₁_map}
use Rattle.std.proofs.Math.Nat.{ℕ_set}
use Rattle.std.proofs.Props.{props}
use Rattle.std.proofs.lemmas.Option.{slice_get_within}
use Rattle.nv_region.specs.Region.{Region}
use Rattle.nv_super.specs.declared.superblock.Super.{Super}
use Rattle.nv_super.specs.declared.faults.Fault.{Fault}
use Rattle.nv_super.specs.declared.kind.Kind.TheVariants.{Directory}
use Rattle.nv_super.specs.Layout.{Layout}
use Rattle.nv_alloc.specs.FreeValue.{FreeLists}
use Rattle.nv_entry.specs.declared.entry.Operation.TheVariants.{Remove}
use Rattle.nv_logpage.specs.Append.{needed}
use Rattle.nv_names.specs.Names.{name_at}
use Rattle.nv_radix.specs.Pages.{block_at}
use Rattle.nv_scan.specs.declared.piece.Row.{Row}
use Rattle.nv_graph.specs.Step.{IsGoodName}
use Rattle.nv_mounted.specs.Held.{Held, Store}
use Rattle.nv_mounted.specs.Bytes.{byte_in, byte_of}
use Rattle.nv_mounted.specs.Graph.{graph_in, target_in}
use Rattle.nv_mounted.specs.Mounted.{IsMounted, KeepsRows, ShowsSound}
use Rattle.nv_mounted.proofs.Closes.{outcome_kept}
use Rattle.nv_outcome.proofs.Exists.{has_outcome}
use Rattle.nv_mounted.proofs.RowsKept.{rows_follow, rows_less}
use Rattle.nv_super.specs.declared.owners.Run.{Run}
use Rattle.nv_steps.specs.LessNames.{GivesRow}
use Rattle.nv_commit.specs.Extends.{extended, with_log}
use Rattle.nv_calls.specs.AtPlaces.{CanGo, CutsAt}
use Rattle.nv_calls.specs.Mount.{IsKept}
use Rattle.nv_steps.specs.NameEntries.{name_entries, with_gone}
use Rattle.nv_calls.specs.RemoveCalls.{ShowsRemoved, WasRemoved}
use Rattle.nv_steps.specs.Steps.{ShowsRow}
use Rattle.nv_steps.proofs.GivenPages.{joined_sup}
use Rattle.nv_calls.proofs.Mounts.{bytes_stay, kept_of_mounted, mounted_of_kept, mounted_with}
use Rattle.nv_steps.proofs.NamedLogs.{lost_told}
use Rattle.nv_calls.proofs.OneRow.{shows_row}
use Rattle.nv_super.proofs.Members.{stands}
use Rattle.nv_calls.proofs.RemovedHeld.{differ, fresh_free, removed_lists, removed_sound}
use Rattle.nv_rows.proofs.Places.{number_at}
use Rattle.nv_steps.proofs.TakenBlocks.{taken_sup}
use Rattle.nv_calls.proofs.TakenOut.{another, places_differ, stays_there, still_rise, was_there}
use Rattle.nv_steps.proofs.RowsAt.{other_set}
use Rattle.nv_steps.proofs.OneByOne.{by_rule}

module _ {R S : Region} {s : Super} {l : Layout} {rows news : List Row} {free mid : FreeLists} {faults : List Fault} {read_only stopped : Bool} (kept : IsKept R s l rows free faults read_only stopped) (runs : stopped ≡ false) (writes : read_only ≡ false)
    {cpu place target : ℕ} {name : List ℕ} {time : ℕ} (step : CutsAt R S l free mid cpu rows news place target name time) (directory : step.row.kind ≡ Directory) (good : IsGoodName l.sup step.gone.inode name)
    (named : option_map (λ (x : ℕ × ℕ). x.0) (name_at step.row.names name) ≡ Some step.gone.inode) (can_go : CanGo step.gone) where
  abbrev row : Row
  row = step.row

  abbrev gone : Row
  gone = step.gone

  abbrev here : Contains rows row
  here = stands rows place row step.at

  abbrev cuts_fresh : List ℕ
  cuts_fresh = step.step.fresh

  -- what is held, and what it shows of both
  module _ (held : Store) (m : IsMounted R l held rows free.pools) where
    abbrev pub h : Held
    h = (shows_row {free = free} m kept.lists row here).0

    shows : ShowsRow R l held h row free
    shows = (shows_row {free = free} m kept.lists row here).1

    abbrev f : Held
    f = (shows_row {free = free} m kept.lists gone (stands rows target gone step.gone_at)).0

    shows_gone : ShowsRow R l held f gone free
    shows_gone = (shows_row {free = free} m kept.lists gone (stands rows target gone step.gone_at)).1

    of_kind : h.kind ≡ Directory
    of_kind = let told = shows.told in sym told.kind ∙ directory

    is_named : (graph_in l held).name row.inode name ≡ Some gone.inode
    is_named =
        let told = shows.told in
        ap (λ (o : Option Held). option_and_then (target_in l name) o) shows.holds ∙ ap (λ (o : Option (ℕ × ℕ)). option_map (λ (y : ℕ × ℕ). y.0) o) (sym (told.names name)) ∙ named

    count : length cuts_fresh ≡ needed (h.tail % 4096) (name_entries Remove gone.inode name time)
    count = let cuts = step.step in let told = shows.told in cuts.count ∙ ap (λ (t : ℕ). needed (t % 4096) (name_entries Remove gone.inode name time)) told.tail

    pub apart : row.inode ≢ gone.inode
    apart = let cuts = step.step in differ time name cuts.fresh shows shows_gone of_kind good is_named can_go kept.lists cuts.taken count

    abbrev then : Store
    then = with_gone held row.inode h (name_entries Remove gone.inode name time) cuts_fresh gone.inode

    sound_then : ShowsSound S l then
    sound_then =
        let cuts = step.step in
        let seen = cuts.shows held h shows in
        removed_sound time name cuts.fresh shows shows_gone of_kind good is_named can_go kept.lists cuts.taken count seen.idle

    bytes_then : (i : ℕ) (g : Held) → held i ≡ Some g → (x : ℕ) → byte_of S l g x ≡ byte_of R l g x
    bytes_then = let cuts = step.step in let seen = cuts.shows held h shows in seen.bytes

    rows_then : KeepsRows l then news
    rows_then =
        let keeps = m.keeps in
        let cuts = step.step in
        let lost = cuts.directory in
        let inside = slice_get_within rows place row step.at in
        let told = lost_told l gone.inode name time cuts.fresh shows.told directory good cuts.count lost in
        let follow = rows_follow l held row.inode (extended h (name_entries Remove gone.inode name time) cuts.fresh) rows keeps.in_rows place inside step.now (number_at rows place row step.now step.at) lost.inode told in
        let there : slice_get (set rows place step.now) target ≡ Some gone = other_set rows place target step.now (places_differ rows place target row gone step.at step.gone_at apart) ∙ step.gone_at in
        let left = rows_less l (with_log held row.inode h (name_entries Remove gone.inode name time) cuts.fresh) gone.inode (set rows place step.now) (remove (set rows place step.now) target) follow (still_rise (set rows place step.now) target follow.rising)
        (λ r c. (was_there (set rows place step.now) target r c, another (set rows place step.now) target gone r follow.rising there c)) (λ r c other. stays_there (set rows place step.now) target gone r there c other) in
        subst (λ (rs : List Row). KeepsRows l then rs) (sym step.put) left

    -- The rows and the free lists are those of what is held.
    pub mounted_then : {after : FreeLists} → GivesRow mid gone after → IsMounted S l then news after.pools
    mounted_then given =
        let cuts = step.step in
        let seen = cuts.shows held h shows in
        record {
          sound = sound_then;
          keeps = record {
            in_rows = rows_then;
            in_lists = removed_lists time name cuts.fresh shows shows_gone of_kind good is_named can_go kept.lists cuts.taken count seen.idle given;
          };
        }

    -- And there are such free lists.
    pub mounted_some : (lists : List (List Run)) × IsMounted S l then news lists
    mounted_some =
        let w = has_outcome S l.sup sound_then.sup in
        let keeps = outcome_kept sound_then w.0 w.2 in
        (w.0.free, record { sound = sound_then; keeps = record { in_rows = rows_then; in_lists = keeps.in_lists } })

  lists_stay : {after : FreeLists} → GivesRow mid gone after → after.sup ≡ l.sup
  lists_stay {after} given = let cuts = step.step in joined_sup mid after given.runs given.joined ∙ taken_sup cuts.taken ∙ kept.lists

  -- What is kept then.
  pub kept_then : {after : FreeLists} → GivesRow mid gone after → (now : Bool) → IsKept S s l news after faults read_only now
  kept_then {after} given now = kept_of_mounted S s l news after faults read_only now kept.tables kept.writes writes (lists_stay given) (∥∥₁_map (mounted_of_kept kept runs writes) (λ w. (with_gone w.0 row.inode (h w.0 w.1) (name_entries Remove gone.inode name time) cuts_fresh gone.inode, mounted_then w.0 w.1 given)))

  -- Each byte that a row's file had is where it was.
  pub bytes_kept : (r : Row) → Contains rows r → (x : ℕ) → byte_in S (block_at r.index (x / 4096)) x ≡ byte_in R (block_at r.index (x / 4096)) x
  bytes_kept = bytes_stay kept runs writes S bytes_then

  -- The directory isn't what goes.
  pub numbers_differ : row.inode ≢ gone.inode
  numbers_differ = ∥∥₁_elim (mounted_of_kept kept runs writes) (hlevel (props, ℕ_set)) (λ w. apart w.0 w.1)

  -- The name and its inode are gone, for whatever is held of the region.
  pub was_removed : (held : Store) (g : Held) → ShowsSound R l held → held row.inode ≡ Some g → ShowsRemoved S l free.pools cpu held row.inode g (name_entries Remove gone.inode name time) gone.inode
  was_removed held g sound is = ∥∥₁_map (mounted_with kept runs held sound) (λ m.
      let shown = shows held m in
      let both : Some (h held m) ≡ Some g = sym shown.holds ∙ is in
      let same : h held m ≡ g = cc in
      subst (λ (k : Held). WasRemoved S l free.pools cpu held row.inode k (name_entries Remove gone.inode name time) gone.inode) same (record {
        fresh = cuts_fresh;
        rest = mid.pools;
        taken = (let cuts = step.step in by_rule cuts.taken);
        free = (let cuts = step.step in fresh_free time name cuts.fresh shown (shows_gone held m) (of_kind held m) good (is_named held m) can_go kept.lists cuts.taken (count held m));
        count = count held m;
        sound = sound_then held m;
      }))

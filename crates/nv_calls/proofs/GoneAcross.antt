-- A mounted file system once a name went from one directory, and its inode got the name of another inode in a second directory,
-- which is gone: what it keeps.
use Rattle.std.proofs.Common.{◌≡◌, ◌≢◌, ℕ, ◌/◌, ◌%◌, Bool, false, List, [], ◌∷◌, ◌++◌, length, remove, set, slice_get, take, ap, sym, ◌∙◌, subst, Some, None}
use Rattle.std.specs.List.{Contains}
use Rattle.std.proofs.Math.Logic.{∥∥₁_map}
use Rattle.std.proofs.lemmas.List.Elements.{Contains-append_left}
use Rattle.std.proofs.lemmas.Option.{slice_get_within}
use Rattle.nv_region.specs.Region.{Region}
use Rattle.nv_super.specs.declared.superblock.Super.{Super}
use Rattle.nv_super.specs.declared.faults.Fault.{Fault}
use Rattle.nv_super.specs.declared.kind.Kind.TheVariants.{Directory}
use Rattle.nv_super.specs.declared.owners.Run.{Run}
use Rattle.nv_super.specs.Layout.{Layout}
use Rattle.nv_super.proofs.Members.{none_in, stands}
use Rattle.nv_alloc.specs.FreeValue.{FreeLists}
use Rattle.nv_entry.specs.declared.entry.Entry.{Entry}
use Rattle.nv_entry.specs.declared.entry.Entry.TheVariants.{Name}
use Rattle.nv_entry.specs.declared.entry.Operation.TheVariants.{Remove}
use Rattle.nv_logpage.specs.Append.{end_of, needed, place_of}
use Rattle.nv_radix.specs.Pages.{block_at}
use Rattle.nv_scan.specs.declared.piece.Row.{Row}
use Rattle.nv_rows.proofs.Places.{number_at}
use Rattle.nv_graph.specs.Step.{IsGoodName}
use Rattle.nv_mounted.specs.Held.{Held, Store}
use Rattle.nv_mounted.specs.Blocks.{OwnsNew}
use Rattle.nv_mounted.specs.Bytes.{byte_in, byte_of}
use Rattle.nv_mounted.specs.Grows.{AreFree, SameFile}
use Rattle.nv_mounted.specs.Mounted.{IsFaultless, IsMounted, KeepsRows, ShowsSound}
use Rattle.nv_mounted.proofs.Closes.{outcome_kept}
use Rattle.nv_outcome.proofs.Exists.{has_outcome}
use Rattle.nv_mounted.proofs.Owning.{other_held, same_held}
use Rattle.nv_mounted.proofs.RowsKept.{rows_follow, rows_less}
use Rattle.nv_commit.specs.Extends.{extended, with_log}
use Rattle.nv_commit.specs.ReplacedNames.{CanTakeName}
use Rattle.nv_commit.specs.Together.{ShowsIdle}
use Rattle.nv_commit.proofs.Takes.{gone_across}
use Rattle.nv_paths.specs.ReplaceSpots.{IsReplaceSpot}
use Rattle.nv_paths.specs.Seen.{tree_of}
use Rattle.nv_steps.specs.Across.{TakesAcross, handed_entries, with_two_gone}
use Rattle.nv_steps.specs.LessNames.{GivesRow}
use Rattle.nv_steps.specs.NameEntries.{name_entries}
use Rattle.nv_steps.specs.Steps.{ShowsRow}
use Rattle.nv_steps.proofs.GivenPages.{joined_sup}
use Rattle.nv_steps.proofs.NamedLogs.{lost_told, named_file}
use Rattle.nv_steps.proofs.OneByOne.{by_rule}
use Rattle.nv_steps.proofs.RowsAt.{other_set}
use Rattle.nv_steps.proofs.TakenBlocks.{are_free, taken_sup}
use Rattle.nv_steps.proofs.TwoLogs.{cut_each, taken_apart}
use Rattle.nv_calls.specs.Mount.{IsKept}
use Rattle.nv_calls.specs.ReplaceCalls.{keeps_others}
use Rattle.nv_calls.specs.ReplaceLogs.{BothLess, ShowsBothLess}
use Rattle.nv_graph.proofs.Ways.{way_to}
use Rattle.nv_calls.proofs.HandedRow.{cut_place, given_place, handed_file, handed_told}
use Rattle.nv_calls.proofs.MoreLogs.{GrewOver, grew_more, lists_gone, none_grew, owns_more, shown_once}
use Rattle.nv_calls.proofs.Mounts.{bytes_stay, kept_of_mounted, mounted_of_kept, mounted_with}
use Rattle.nv_calls.proofs.OneRow.{shows_row}
use Rattle.nv_calls.proofs.TakenOut.{another, places_differ, stays_there, still_rise, was_there}
use Rattle.nv_calls.proofs.TakenSpot.{can_take, held_goes, spot_directory, spot_goes, spot_to}

module _ {R S : Region} {s : Super} {l : Layout} {rows news : List Row} {free mid : FreeLists} {faults : List Fault} {read_only stopped : Bool} (kept : IsKept R s l rows free faults read_only stopped) (runs : stopped ≡ false) (writes : read_only ≡ false)
    {cpu place source end : ℕ} (target : ℕ) {name other : List ℕ} {time : ℕ} {from from_now to to_now gone : Row} (moved : Row) (at : slice_get rows place ≡ Some from) (to_at : slice_get rows end ≡ Some to) (moved_at : slice_get rows source ≡ Some moved) (gone_at : slice_get rows target ≡ Some gone)
    (step : TakesAcross R S l free mid cpu from from_now to to_now moved.inode gone.inode name other time) (put : news ≡ remove (set (set rows place from_now) end to_now) target) (names : List (List ℕ)) (first : List ℕ) (rest : List (List ℕ))
    (spot : IsReplaceSpot (tree_of R rows) rows names (first ∷ rest) place name source end other (Some gone.inode)) (good : IsGoodName l.sup moved.inode name) (good_other : IsGoodName l.sup moved.inode other) (good_there : IsGoodName l.sup gone.inode other)
    (apart : moved.inode ≢ gone.inode) (goes : keeps_others gone ≡ false) (differ : from.inode ≢ to.inode) (from_differs : from.inode ≢ gone.inode) (to_differs : to.inode ≢ gone.inode) where
  abbrev i : ℕ
  i = moved.inode

  abbrev j : ℕ
  j = gone.inode

  abbrev cut : List Entry
  cut = name_entries Remove i name time

  abbrev hand : List Entry
  hand = handed_entries i j other time

  from_directory : from.kind ≡ Directory
  from_directory = spot_directory R l rows target moved at to_at moved_at gone_at names first rest spot apart

  to_directory : to.kind ≡ Directory
  to_directory = spot_to R l rows target moved at to_at moved_at gone_at names first rest spot apart

  -- what is held, and what it shows of the rows
  module _ (held : Store) (m : IsMounted R l held rows free.pools) where
    abbrev pub h : Held
    h = (shows_row {free = free} m kept.lists from (stands rows place from at)).0

    shows : ShowsRow R l held h from free
    shows = (shows_row {free = free} m kept.lists from (stands rows place from at)).1

    abbrev pub k : Held
    k = (shows_row {free = free} m kept.lists to (stands rows end to to_at)).0

    shows_to : ShowsRow R l held k to free
    shows_to = (shows_row {free = free} m kept.lists to (stands rows end to to_at)).1

    abbrev f : Held
    f = (shows_row {free = free} m kept.lists gone (stands rows target gone gone_at)).0

    shows_gone : ShowsRow R l held f gone free
    shows_gone = (shows_row {free = free} m kept.lists gone (stands rows target gone gone_at)).1

    can : CanTakeName l held from.inode h name (way_to (first ∷ rest)) to.inode k other i j f
    can = can_take R l rows target moved at to_at moved_at gone_at names first rest spot apart free m shows shows_to shows_gone good good_other good_there

    count : length step.fresh ≡ needed (h.tail % 4096) cut
    count = let told = shows.told in step.count ∙ ap (λ (t : ℕ). needed (t % 4096) cut) told.tail

    more_count : length step.more ≡ needed (k.tail % 4096) hand
    more_count = let told = shows_to.told in step.more_count ∙ ap (λ (t : ℕ). needed (t % 4096) hand) told.tail

    stays : SameFile l h (extended h cut step.fresh)
    stays = named_file l i name time step.fresh shows.told from_directory good Remove

    to_stays : SameFile l k (extended k hand step.more)
    to_stays = handed_file l i j other other time step.more shows_to.told to_directory good_there good_other

    abbrev one : Store
    one = with_log held from.inode h cut step.fresh

    abbrev two : Store
    two = with_log one to.inode k hand step.more

    abbrev then : Store
    then = with_two_gone held from.inode h cut step.fresh to.inode k hand step.more j

    idle : ShowsIdle S l then
    idle = let seen = step.shows held h k shows shows_to in seen.idle

    to_there : one to.inode ≡ Some k
    to_there = other_held held from.inode to.inode (Some (extended h cut step.fresh)) (λ e. differ (sym e)) ∙ shows_to.holds

    gone_there : two j ≡ Some f
    gone_there = other_held one to.inode j (Some (extended k hand step.more)) (λ e. to_differs (sym e)) ∙ other_held held from.inode j (Some (extended h cut step.fresh)) (λ e. from_differs (sym e)) ∙ shows_gone.holds

    from_then : then from.inode ≡ Some (extended h cut step.fresh)
    from_then = other_held two j from.inode None from_differs ∙ other_held one to.inode from.inode (Some (extended k hand step.more)) differ ∙ same_held held from.inode (Some (extended h cut step.fresh))

    to_then : then to.inode ≡ Some (extended k hand step.more)
    to_then = other_held two j to.inode None to_differs ∙ same_held one to.inode (Some (extended k hand step.more))

    both_free : AreFree l held (step.fresh ++ step.more)
    both_free = are_free step.taken l held shows.lists kept.lists

    blocks_apart : (b : ℕ) → Contains step.fresh b → Contains step.more b → ⊥
    blocks_apart = let cuts = cut_each step.fresh step.more step.taken in taken_apart cuts.1 cuts.2

    none_yet : GrewOver l held held []
    none_yet = let sound = shows.sound in let right = sound.faultless in none_grew right.undoubled

    first_grew : GrewOver l held one step.fresh
    first_grew = grew_more none_yet shows.holds cut step.fresh (λ b c. both_free b (Contains-append_left step.fresh step.more b c)) (λ b c. absurd (none_in b c)) stays count (shown_once l S then from.inode (extended h cut step.fresh) idle.shows from_then)

    own_first : OwnsNew l held from.inode (Some (extended h cut step.fresh))
    own_first = owns_more none_yet shows.holds cut step.fresh (λ b c. both_free b (Contains-append_left step.fresh step.more b c)) (λ b c. absurd (none_in b c)) stays count (shown_once l S then from.inode (extended h cut step.fresh) idle.shows from_then)

    both_grew : GrewOver l held two (step.fresh ++ step.more)
    both_grew = grew_more first_grew to_there hand step.more both_free blocks_apart to_stays more_count (shown_once l S then to.inode (extended k hand step.more) idle.shows to_then)

    own_second : OwnsNew l one to.inode (Some (extended k hand step.more))
    own_second = owns_more first_grew to_there hand step.more both_free blocks_apart to_stays more_count (shown_once l S then to.inode (extended k hand step.more) idle.shows to_then)

    faultless : IsFaultless l then
    faultless = gone_across l held from.inode h name (way_to (first ∷ rest)) to.inode k other i j f can (place_of step.fresh 0 h.tail (Name (record { operation = Remove; inode = i; time = time; name = name }))) time (end_of step.fresh 0 h.tail cut) (take (needed (h.tail % 4096) cut) step.fresh)
        (cut_place l i j other other time step.more shows_to.told to_directory good_there good_other) (given_place l i j other other time step.more shows_to.told to_directory good_there good_other) (end_of step.more 0 k.tail hand) (take (needed (k.tail % 4096) hand) step.more) (λ e. differ (sym e))
        own_first own_second (held_goes shows_gone (spot_goes R l rows target moved at to_at moved_at gone_at names first rest spot apart free m goes))

    sound_then : ShowsSound S l then
    sound_then = record { tables = idle.tables; idle = idle.idle; shows = idle.shows; faultless = faultless }

    bytes_then : (n : ℕ) (g : Held) → held n ≡ Some g → (x : ℕ) → byte_of S l g x ≡ byte_of R l g x
    bytes_then = let seen = step.shows held h k shows shows_to in seen.bytes

    rows_then : KeepsRows l then news
    rows_then =
        let keeps = m.keeps in
        let left = step.is in
        let lost = left.0 in
        let has = step.other_is in
        let told = lost_told l i name time step.fresh shows.told from_directory good step.count lost in
        let to_told = handed_told l i j other other time step.more shows_to.told to_directory good_there good_other step.more_count has in
        let to_still : slice_get (set rows place from_now) end ≡ Some to = other_set rows place end from_now (places_differ rows place end from to at to_at differ) ∙ to_at in
        let first_follow = rows_follow l held from.inode (extended h cut step.fresh) rows keeps.in_rows place (slice_get_within rows place from at) from_now (number_at rows place from from_now at) lost.inode told in
        let follow = rows_follow l one to.inode (extended k hand step.more) (set rows place from_now) first_follow end (slice_get_within (set rows place from_now) end to to_still) to_now (number_at (set rows place from_now) end to to_now to_still) has.inode to_told in
        let all = set (set rows place from_now) end to_now in
        let there : slice_get all target ≡ Some gone = other_set (set rows place from_now) end target to_now (places_differ rows end target to gone to_at gone_at to_differs) ∙ other_set rows place target from_now (places_differ rows place target from gone at gone_at from_differs) ∙ gone_at in
        let left_rows = rows_less l two j all (remove all target) follow (still_rise all target follow.rising) (λ r c. (was_there all target r c, another all target gone r follow.rising there c)) (λ r c another_one. stays_there all target gone r there c another_one) in
        subst (λ (rs : List Row). KeepsRows l then rs) (sym put) left_rows

    -- The rows and the free lists are those of what is held.
    mounted_then : {after : FreeLists} → GivesRow mid gone after → IsMounted S l then news after.pools
    mounted_then given = record { sound = sound_then; keeps = record { in_rows = rows_then; in_lists = lists_gone both_grew step.taken kept.lists shows_gone gone_there given } }

    -- And there are such free lists.
    pub mounted_some : (lists : List (List Run)) × IsMounted S l then news lists
    mounted_some =
        let w = has_outcome S l.sup sound_then.sup in
        let keeps = outcome_kept sound_then w.0 w.2 in
        (w.0.free, record { sound = sound_then; keeps = record { in_rows = rows_then; in_lists = keeps.in_lists } })

  lists_stay : {after : FreeLists} → GivesRow mid gone after → after.sup ≡ l.sup
  lists_stay {after} given = joined_sup mid after given.runs given.joined ∙ taken_sup step.taken ∙ kept.lists

  -- What is kept then.
  pub kept_then : {after : FreeLists} → GivesRow mid gone after → (later : Bool) → IsKept S s l news after faults read_only later
  kept_then {after} given later = kept_of_mounted S s l news after faults read_only later kept.tables kept.writes writes (lists_stay given) (∥∥₁_map (mounted_of_kept kept runs writes) (λ w. (_, mounted_then w.0 w.1 given)))

  -- Each byte that a row's file had is where it was.
  pub bytes_kept : (r : Row) → Contains rows r → (x : ℕ) → byte_in S (block_at r.index (x / 4096)) x ≡ byte_in R (block_at r.index (x / 4096)) x
  bytes_kept = bytes_stay kept runs writes S bytes_then

  -- Both logs have grown and the inode is gone, for whatever is held of the region.
  pub was_handed : (held : Store) (a b : Held) → ShowsSound R l held → held from.inode ≡ Some a → held to.inode ≡ Some b → ShowsBothLess S l free.pools cpu held from.inode a cut to.inode b hand j
  was_handed held a b sound is other_is = ∥∥₁_map (mounted_with kept runs held sound) (λ m.
      let shown = shows held m in
      let shown_to = shows_to held m in
      let one_is : Some (h held m) ≡ Some a = sym shown.holds ∙ is in
      let two_is : Some (k held m) ≡ Some b = sym shown_to.holds ∙ other_is in
      let same : h held m ≡ a = cc in
      let same_to : k held m ≡ b = cc in
      subst (λ (x : Held). BothLess S l free.pools cpu held from.inode x cut to.inode b hand j) same
      (subst (λ (x : Held). BothLess S l free.pools cpu held from.inode (h held m) cut to.inode x hand j) same_to (record {
        fresh = step.fresh;
        more = step.more;
        rest = mid.pools;
        taken = by_rule step.taken;
        free = both_free held m;
        apart = blocks_apart held m;
        count = count held m;
        more_count = more_count held m;
        sound = sound_then held m;
      })))

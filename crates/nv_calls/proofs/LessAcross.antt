-- A mounted file system once a name went from one directory, and its inode got the name of a file in a second directory, which
-- counts a link less: what it keeps.
use Rattle.std.proofs.Common.{◌≡◌, ◌≢◌, ℕ, ◌-◌, ◌/◌, ◌%◌, ◌<◌, ◌≤◌, true, Bool, false, List, [], ◌∷◌, ◌++◌, length, set, slice_get, take, ap, sym, ◌∙◌, subst, arith, Some}
use Rattle.std.specs.List.{Contains}
use Rattle.std.proofs.Math.Logic.{∥∥₁_map}
use Rattle.std.proofs.lemmas.List.Elements.{Contains-append_left}
use Rattle.std.proofs.lemmas.Option.{slice_get_within}
use Rattle.nv_region.specs.Region.{Region}
use Rattle.nv_super.specs.declared.superblock.Super.{Super}
use Rattle.nv_super.specs.declared.faults.Fault.{Fault}
use Rattle.nv_super.specs.declared.kind.Kind.TheVariants.{File, Directory}
use Rattle.nv_super.specs.Layout.{Layout}
use Rattle.nv_super.proofs.Members.{none_in, stands}
use Rattle.nv_alloc.specs.FreeValue.{FreeLists}
use Rattle.nv_entry.specs.declared.entry.Entry.{Entry}
use Rattle.nv_entry.specs.declared.entry.Entry.TheVariants.{Links, Name}
use Rattle.nv_entry.specs.declared.entry.Operation.TheVariants.{Remove}
use Rattle.nv_logpage.specs.Append.{end_of, needed, place_of}
use Rattle.nv_radix.specs.Pages.{block_at}
use Rattle.nv_scan.specs.declared.piece.Row.{Row}
use Rattle.nv_rows.proofs.Places.{number_at}
use Rattle.nv_graph.specs.Step.{IsGoodName}
use Rattle.nv_mounted.specs.Held.{Held, Store}
use Rattle.nv_mounted.specs.Blocks.{OwnsNew}
use Rattle.nv_mounted.specs.Graph.{node_in}
use Rattle.nv_mounted.specs.Bytes.{byte_in, byte_of}
use Rattle.nv_mounted.specs.Grows.{AreFree, SameFile}
use Rattle.nv_mounted.specs.Mounted.{IsFaultless, IsMounted, KeepsRows, ShowsSound}
use Rattle.nv_mounted.proofs.Owning.{other_held, same_held}
use Rattle.nv_mounted.proofs.RowsKept.{rows_follow}
use Rattle.nv_commit.specs.Extends.{extended, with_log}
use Rattle.nv_commit.specs.ReplacedNames.{CanTakeName}
use Rattle.nv_commit.specs.Together.{ShowsIdle}
use Rattle.nv_commit.proofs.Takes.{less_across}
use Rattle.nv_paths.specs.ReplaceSpots.{IsReplaceSpot}
use Rattle.nv_paths.specs.Seen.{tree_of}
use Rattle.nv_steps.specs.Across.{LessensAcross, handed_entries, with_three_logs}
use Rattle.nv_steps.specs.NameEntries.{links_entries, name_entries}
use Rattle.nv_steps.specs.Steps.{ShowsRow}
use Rattle.nv_steps.proofs.NamedLogs.{lost_told, named_file}
use Rattle.nv_steps.proofs.OneByOne.{by_rule}
use Rattle.nv_steps.proofs.RowsAt.{other_set}
use Rattle.nv_steps.proofs.TakenBlocks.{are_free, taken_sup}
use Rattle.nv_steps.proofs.TwoLogs.{cut_each, taken_apart}
use Rattle.nv_calls.specs.Mount.{IsKept}
use Rattle.nv_calls.specs.ReplaceCalls.{keeps_others}
use Rattle.nv_calls.specs.ReplaceLogs.{ShowsThreeGrew, ThreeGrew}
use Rattle.nv_graph.proofs.Ways.{way_to}
use Rattle.nv_calls.proofs.HandedRow.{cut_place, given_place, handed_file, handed_told}
use Rattle.nv_calls.proofs.MoreLogs.{GrewOver, grew_more, lists_grew, none_grew, owns_more, shown_once}
use Rattle.nv_calls.proofs.Mounts.{bytes_stay, kept_of_mounted, mounted_of_kept, mounted_with}
use Rattle.nv_calls.proofs.OneRow.{shows_row}
use Rattle.nv_calls.proofs.TakenOut.{places_differ}
use Rattle.nv_calls.proofs.TakenSpot.{can_take, spot_directory, spot_to}
use Rattle.nv_calls.proofs.LessenedHeld.{stays_file}
use Rattle.nv_calls.proofs.LinkedHeld.{counted_file, counted_told}
use Rattle.nv_calls.proofs.ReplaceAt.{more_links}
use Rattle.nv_calls.proofs.UnlinkedHeld.{few_links}

module _ {R S : Region} {s : Super} {l : Layout} {rows news : List Row} {free after : FreeLists} {faults : List Fault} {read_only stopped : Bool} (kept : IsKept R s l rows free faults read_only stopped) (runs : stopped ≡ false) (writes : read_only ≡ false)
    {cpu place source end : ℕ} (target : ℕ) {name other : List ℕ} {time : ℕ} {from from_now to to_now file file_now : Row} (moved : Row) (at : slice_get rows place ≡ Some from) (to_at : slice_get rows end ≡ Some to) (moved_at : slice_get rows source ≡ Some moved) (file_at : slice_get rows target ≡ Some file)
    (step : LessensAcross R S l free after cpu from from_now to to_now file file_now moved.inode name other time) (put : news ≡ set (set (set rows place from_now) end to_now) target file_now) (names : List (List ℕ)) (first : List ℕ) (rest : List (List ℕ))
    (spot : IsReplaceSpot (tree_of R rows) rows names (first ∷ rest) place name source end other (Some file.inode)) (good : IsGoodName l.sup moved.inode name) (good_other : IsGoodName l.sup moved.inode other) (good_there : IsGoodName l.sup file.inode other)
    (apart : moved.inode ≢ file.inode) (has_more : keeps_others file ≡ true) (differ : from.inode ≢ to.inode) (from_differs : from.inode ≢ file.inode) (to_differs : to.inode ≢ file.inode) where
  abbrev i : ℕ
  i = moved.inode

  abbrev j : ℕ
  j = file.inode

  abbrev cut : List Entry
  cut = name_entries Remove i name time

  abbrev hand : List Entry
  hand = handed_entries i j other time

  abbrev links : ℕ
  links = file.numbers.links

  abbrev less : List Entry
  less = links_entries (links - 1) time

  is_file : file.kind ≡ File
  is_file = stays_file file has_more

  some : 1 < links
  some = more_links file has_more

  from_directory : from.kind ≡ Directory
  from_directory = spot_directory R l rows target moved at to_at moved_at file_at names first rest spot apart

  to_directory : to.kind ≡ Directory
  to_directory = spot_to R l rows target moved at to_at moved_at file_at names first rest spot apart

  -- what is held, and what it shows of the rows
  module _ (held : Store) (m : IsMounted R l held rows free.pools) where
    abbrev pub h : Held
    h = (shows_row {free = free} m kept.lists from (stands rows place from at)).0

    shows : ShowsRow R l held h from free
    shows = (shows_row {free = free} m kept.lists from (stands rows place from at)).1

    abbrev pub k : Held
    k = (shows_row {free = free} m kept.lists to (stands rows end to to_at)).0

    shows_to : ShowsRow R l held k to free
    shows_to = (shows_row {free = free} m kept.lists to (stands rows end to to_at)).1

    abbrev f : Held
    f = (shows_row {free = free} m kept.lists file (stands rows target file file_at)).0

    shows_file : ShowsRow R l held f file free
    shows_file = (shows_row {free = free} m kept.lists file (stands rows target file file_at)).1

    can : CanTakeName l held from.inode h name (way_to (first ∷ rest)) to.inode k other i j f
    can = can_take R l rows target moved at to_at moved_at file_at names first rest spot apart free m shows shows_to shows_file good good_other good_there

    count : length step.fresh ≡ needed (h.tail % 4096) cut
    count = let told = shows.told in step.count ∙ ap (λ (t : ℕ). needed (t % 4096) cut) told.tail

    more_count : length step.more ≡ needed (k.tail % 4096) hand
    more_count = let told = shows_to.told in step.more_count ∙ ap (λ (t : ℕ). needed (t % 4096) hand) told.tail

    rest_count : length step.rest ≡ needed (f.tail % 4096) less
    rest_count = let told = shows_file.told in step.rest_count ∙ ap (λ (t : ℕ). needed (t % 4096) less) told.tail

    few : links ≤ 1000
    few = few_links shows_file

    file_stays : SameFile l f (extended f less step.rest)
    file_stays = counted_file (links - 1) time step.rest shows_file is_file (omega (arith, some)) (omega (arith, few))

    stays : SameFile l h (extended h cut step.fresh)
    stays = named_file l i name time step.fresh shows.told from_directory good Remove

    to_stays : SameFile l k (extended k hand step.more)
    to_stays = handed_file l i j other other time step.more shows_to.told to_directory good_there good_other

    abbrev one : Store
    one = with_log held from.inode h cut step.fresh

    abbrev two : Store
    two = with_log one to.inode k hand step.more

    abbrev then : Store
    then = with_three_logs held from.inode h cut step.fresh to.inode k hand step.more j f less step.rest

    idle : ShowsIdle S l then
    idle = let seen = step.shows held h k f shows shows_to shows_file in seen.idle

    to_there : one to.inode ≡ Some k
    to_there = other_held held from.inode to.inode (Some (extended h cut step.fresh)) (λ e. differ (sym e)) ∙ shows_to.holds

    file_there : two j ≡ Some f
    file_there = other_held one to.inode j (Some (extended k hand step.more)) (λ e. to_differs (sym e)) ∙ other_held held from.inode j (Some (extended h cut step.fresh)) (λ e. from_differs (sym e)) ∙ shows_file.holds

    from_then : then from.inode ≡ Some (extended h cut step.fresh)
    from_then = other_held two j from.inode (Some (extended f less step.rest)) from_differs ∙ other_held one to.inode from.inode (Some (extended k hand step.more)) differ ∙ same_held held from.inode (Some (extended h cut step.fresh))

    to_then : then to.inode ≡ Some (extended k hand step.more)
    to_then = other_held two j to.inode (Some (extended f less step.rest)) to_differs ∙ same_held one to.inode (Some (extended k hand step.more))

    file_then : then j ≡ Some (extended f less step.rest)
    file_then = same_held two j (Some (extended f less step.rest))

    all_free : AreFree l held ((step.fresh ++ step.more) ++ step.rest)
    all_free = are_free step.taken l held shows.lists kept.lists

    both_free : AreFree l held (step.fresh ++ step.more)
    both_free b c = all_free b (Contains-append_left (step.fresh ++ step.more) step.rest b c)

    blocks_apart : (b : ℕ) → Contains step.fresh b → Contains step.more b → ⊥
    blocks_apart = let last = cut_each (step.fresh ++ step.more) step.rest step.taken in let cuts = cut_each step.fresh step.more last.1 in taken_apart cuts.1 cuts.2

    rest_apart : (b : ℕ) → Contains (step.fresh ++ step.more) b → Contains step.rest b → ⊥
    rest_apart = let last = cut_each (step.fresh ++ step.more) step.rest step.taken in taken_apart last.1 last.2

    none_yet : GrewOver l held held []
    none_yet = let sound = shows.sound in let right = sound.faultless in none_grew right.undoubled

    first_grew : GrewOver l held one step.fresh
    first_grew = grew_more none_yet shows.holds cut step.fresh (λ b c. both_free b (Contains-append_left step.fresh step.more b c)) (λ b c. absurd (none_in b c)) stays count (shown_once l S then from.inode (extended h cut step.fresh) idle.shows from_then)

    own_first : OwnsNew l held from.inode (Some (extended h cut step.fresh))
    own_first = owns_more none_yet shows.holds cut step.fresh (λ b c. both_free b (Contains-append_left step.fresh step.more b c)) (λ b c. absurd (none_in b c)) stays count (shown_once l S then from.inode (extended h cut step.fresh) idle.shows from_then)

    both_grew : GrewOver l held two (step.fresh ++ step.more)
    both_grew = grew_more first_grew to_there hand step.more both_free blocks_apart to_stays more_count (shown_once l S then to.inode (extended k hand step.more) idle.shows to_then)

    own_second : OwnsNew l one to.inode (Some (extended k hand step.more))
    own_second = owns_more first_grew to_there hand step.more both_free blocks_apart to_stays more_count (shown_once l S then to.inode (extended k hand step.more) idle.shows to_then)

    all_grew : GrewOver l held then ((step.fresh ++ step.more) ++ step.rest)
    all_grew = grew_more both_grew file_there less step.rest all_free rest_apart file_stays rest_count (shown_once l S then j (extended f less step.rest) idle.shows file_then)

    own_third : OwnsNew l two j (Some (extended f less step.rest))
    own_third = owns_more both_grew file_there less step.rest all_free rest_apart file_stays rest_count (shown_once l S then j (extended f less step.rest) idle.shows file_then)

    links_are : links ≡ (node_in l f).links
    links_are = let told = shows_file.told in let numbers = told.numbers in numbers.links

    file_kind : f.kind ≡ File
    file_kind = let told = shows_file.told in sym told.kind ∙ is_file

    abbrev Follows : ℕ → Type 0
    Follows n = 1 < n → n ≤ 1000 → OwnsNew l two j (Some (extended f (links_entries (n - 1) time) step.rest)) → IsFaultless l (with_log two j f (links_entries (n - 1) time) step.rest)

    follows : Follows (node_in l f).links
    follows more small own =
        let count = (node_in l f).links - 1 in
        less_across l held from.inode h name (way_to (first ∷ rest)) to.inode k other i j f can (place_of step.fresh 0 h.tail (Name (record { operation = Remove; inode = i; time = time; name = name }))) time (end_of step.fresh 0 h.tail cut) (take (needed (h.tail % 4096) cut) step.fresh)
        (cut_place l i j other other time step.more shows_to.told to_directory good_there good_other) (given_place l i j other other time step.more shows_to.told to_directory good_there good_other) (end_of step.more 0 k.tail hand) (take (needed (k.tail % 4096) hand) step.more) (λ e. differ (sym e))
        own_first own_second file_kind more small (place_of step.rest 0 f.tail (Links (record { count = count; time = time }))) (end_of step.rest 0 f.tail (links_entries count time)) (take (needed (f.tail % 4096) (links_entries count time)) step.rest) own

    faultless : IsFaultless l then
    faultless = subst Follows (sym links_are) follows some few own_third

    sound_then : ShowsSound S l then
    sound_then = record { tables = idle.tables; idle = idle.idle; shows = idle.shows; faultless = faultless }

    bytes_then : (n : ℕ) (g : Held) → held n ≡ Some g → (x : ℕ) → byte_of S l g x ≡ byte_of R l g x
    bytes_then = let seen = step.shows held h k f shows shows_to shows_file in seen.bytes

    rows_then : KeepsRows l then news
    rows_then =
        let keeps = m.keeps in
        let left = step.is in
        let lost = left.0 in
        let has = step.other_is in
        let counts = step.third_is in
        let counted = counts.0 in
        let told = lost_told l i name time step.fresh shows.told from_directory good step.count lost in
        let to_told = handed_told l i j other other time step.more shows_to.told to_directory good_there good_other step.more_count has in
        let to_still : slice_get (set rows place from_now) end ≡ Some to = other_set rows place end from_now (places_differ rows place end from to at to_at differ) ∙ to_at in
        let first_follow = rows_follow l held from.inode (extended h cut step.fresh) rows keeps.in_rows place (slice_get_within rows place from at) from_now (number_at rows place from from_now at) lost.inode told in
        let follow = rows_follow l one to.inode (extended k hand step.more) (set rows place from_now) first_follow end (slice_get_within (set rows place from_now) end to to_still) to_now (number_at (set rows place from_now) end to to_now to_still) has.inode to_told in
        let all = set (set rows place from_now) end to_now in
        let there : slice_get all target ≡ Some file = other_set (set rows place from_now) end target to_now (places_differ rows end target to file to_at file_at to_differs) ∙ other_set rows place target from_now (places_differ rows place target from file at file_at from_differs) ∙ file_at in
        let file_told = counted_told (links - 1) time step.rest shows_file is_file (omega (arith, some)) (omega (arith, few)) step.rest_count counted in
        let last_follow = rows_follow l two j (extended f less step.rest) all follow target (slice_get_within all target file there) file_now (number_at all target file file_now there) counted.inode file_told in
        subst (λ (rs : List Row). KeepsRows l then rs) (sym put) last_follow

    -- The rows and the free lists are those of what is held.
    pub mounted_then : IsMounted S l then news after.pools
    mounted_then = record { sound = sound_then; keeps = record { in_rows = rows_then; in_lists = lists_grew all_grew step.taken shows.lists kept.lists } }

  -- What is kept then.
  pub kept_then : (later : Bool) → IsKept S s l news after faults read_only later
  kept_then later = kept_of_mounted S s l news after faults read_only later kept.tables kept.writes writes (taken_sup step.taken ∙ kept.lists) (∥∥₁_map (mounted_of_kept kept runs writes) (λ w. (_, mounted_then w.0 w.1)))

  -- Each byte that a row's file had is where it was.
  pub bytes_kept : (r : Row) → Contains rows r → (x : ℕ) → byte_in S (block_at r.index (x / 4096)) x ≡ byte_in R (block_at r.index (x / 4096)) x
  bytes_kept = bytes_stay kept runs writes S bytes_then

  -- All three logs, for whatever is held of the region.
  pub three_grew : (held : Store) (a b c : Held) → ShowsSound R l held → held from.inode ≡ Some a → held to.inode ≡ Some b → held j ≡ Some c → ShowsThreeGrew S l free.pools cpu held from.inode a cut to.inode b hand j c less
  three_grew held a b c sound is other_is last_is = ∥∥₁_map (mounted_with kept runs held sound) (λ m.
      let shown = shows held m in
      let shown_to = shows_to held m in
      let shown_file = shows_file held m in
      let one_is : Some (h held m) ≡ Some a = sym shown.holds ∙ is in
      let two_is : Some (k held m) ≡ Some b = sym shown_to.holds ∙ other_is in
      let three_is : Some (f held m) ≡ Some c = sym shown_file.holds ∙ last_is in
      let same : h held m ≡ a = cc in
      let same_to : k held m ≡ b = cc in
      let same_file : f held m ≡ c = cc in
      subst (λ (x : Held). ThreeGrew S l free.pools cpu held from.inode x cut to.inode b hand j c less) same
      (subst (λ (x : Held). ThreeGrew S l free.pools cpu held from.inode (h held m) cut to.inode x hand j c less) same_to
      (subst (λ (x : Held). ThreeGrew S l free.pools cpu held from.inode (h held m) cut to.inode (k held m) hand j x less) same_file (record {
        fresh = step.fresh;
        more = step.more;
        last = step.rest;
        rest = after.pools;
        taken = by_rule step.taken;
        free = all_free held m;
        apart = blocks_apart held m;
        last_apart = rest_apart held m;
        count = count held m;
        more_count = more_count held m;
        last_count = rest_count held m;
        sound = sound_then held m;
      }))))

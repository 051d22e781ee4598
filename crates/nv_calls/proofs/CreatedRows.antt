-- A mounted file system once an inode was made: what it keeps.
use Rattle.std.proofs.Common.{◌≡◌, ◌≢◌, ℕ, zero, suc, ◌<◌, ◌/◌, ◌%◌, inl, inr, nat_eq, cond, Bool, true, false, List, [], ◌∷◌, length, set, slice_get, refl, ap, sym, ◌∙◌, subst, arith, Option, Some, None}
use Rattle.std.specs.List.{Contains, insert}
use Rattle.std.specs.Option.{option_and_then, option_map}
use Rattle.std.proofs.Math.Logic.{∥∥₁_elim, ∥∥₁_map}
use Rattle.std.proofs.Math.Nat.{ℕ_set}
use Rattle.std.proofs.Props.{props}
use Rattle.std.proofs.lemmas.Bool.{cases_eq}
use Rattle.std.proofs.lemmas.Bool.Decides.{nat_tests}
use Rattle.std.proofs.lemmas.List.{get_or_default}
use Rattle.std.proofs.lemmas.Option.{slice_get-get_or, slice_get_within}
use Rattle.nv_region.specs.Region.{Region}
use Rattle.nv_super.specs.declared.superblock.Super.{Super}
use Rattle.nv_super.specs.declared.owners.Run.{Run}
use Rattle.nv_super.specs.declared.faults.Fault.{Fault}
use Rattle.nv_super.specs.declared.kind.Kind.{Kind}
use Rattle.nv_super.specs.declared.kind.Kind.TheVariants.{Directory}
use Rattle.nv_super.specs.Layout.{Layout}
use Rattle.nv_alloc.specs.FreeValue.{FreeLists}
use Rattle.nv_entry.specs.declared.entry.Operation.TheVariants.{Add}
use Rattle.nv_logpage.specs.Append.{end_of, needed}
use Rattle.nv_names.specs.Names.{name_at}
use Rattle.nv_radix.specs.Pages.{block_at}
use Rattle.nv_scan.specs.declared.piece.Row.{Row}
use Rattle.nv_graph.specs.Read.{row_of}
use Rattle.nv_graph.specs.Step.{IsGoodName}
use Rattle.nv_mounted.specs.Held.{Held, Store, with_inode}
use Rattle.nv_mounted.specs.Bytes.{byte_in, byte_of}
use Rattle.nv_mounted.specs.Graph.{graph_in, node_in, target_in}
use Rattle.nv_mounted.specs.Mounted.{IsMounted, KeepsRow, KeepsRows, ShowsSound}
use Rattle.nv_mounted.proofs.Owning.{other_held}
use Rattle.nv_mounted.proofs.RowsKept.{rows_follow, rows_more}
use Rattle.nv_commit.specs.Extends.{extended}
use Rattle.nv_calls.specs.Mount.{IsKept}
use Rattle.nv_calls.specs.NameCalls.{WasCreated}
use Rattle.nv_steps.specs.NameEntries.{name_entries, new_held, with_named}
use Rattle.nv_steps.specs.NewNames.{HasNamed, place_named}
use Rattle.nv_calls.specs.AtPlaces.{CreatesAt}
use Rattle.nv_paths.specs.Spots.{IsNoneNamed}
use Rattle.nv_steps.specs.Steps.{ShowsRow}
use Rattle.nv_calls.proofs.CreatedHeld.{all_free, made_lists, made_sound, new_told}
use Rattle.nv_super.proofs.Rising.{Contains-head, Contains-tail}
use Rattle.nv_steps.proofs.Inserted.{from_inserted, stays_inserted}
use Rattle.nv_calls.proofs.Mounts.{bytes_stay, kept_of_mounted, mounted_of_kept}
use Rattle.nv_steps.proofs.NamedLogs.{named_told}
use Rattle.nv_calls.proofs.OneRow.{shows_row}
use Rattle.nv_super.proofs.Members.{stands}
use Rattle.nv_rows.proofs.Places.{number_at}
use Rattle.nv_steps.proofs.RowOf.{row_at}
use Rattle.nv_steps.proofs.TakenBlocks.{all_differ, taken_sup}
use Rattle.nv_steps.proofs.OneByOne.{by_rule}

-- an element that was put in stands there
is_inserted : (rows : List Row) (p : ℕ) (row : Row) → Contains (insert rows p row) row
is_inserted [] zero row = Contains-head row []
is_inserted [] (suc p) row = Contains-head row []
is_inserted (x ∷ rows) zero row = Contains-head row (x ∷ rows)
is_inserted (x ∷ rows) (suc p) row = Contains-tail x (insert rows p row) row (is_inserted rows p row)

-- ---- what is held of rows

module _ {R : Region} {l : Layout} {held : Store} {rows : List Row} {pools : List (List Run)} (m : IsMounted R l held rows pools) where
  pub in_rows : KeepsRows l held rows
  in_rows = let keeps = m.keeps in keeps.in_rows

  has_row : (j : ℕ) (g : Held) → held j ≡ Some g → row_of rows j ≡ None → ⊥
  has_row j g is none =
      let kept = in_rows in
      let w = kept.all j g is in
      let c = w.1 in
      let there : slice_get rows c.0 ≡ Some w.0 = slice_get-get_or rows c.0 w.0 c.1 ∙ ap (λ (r : Row). Some r) c.2 in
      let told : row_of rows w.0.inode ≡ Some w.0 = row_at rows c.0 w.0 kept.rising there in
      let clash : Some w.0 ≡ None = sym told ∙ ap (row_of rows) w.2 ∙ none in
      cc

  -- a number without a row isn't held
  pub not_held : (j : ℕ) → row_of rows j ≡ None → held j ≡ None
  not_held j none = by (held j) refl where
    by : (o : Option Held) → held j ≡ o → held j ≡ None
    by None e = e
    by (Some g) e = absurd (has_row j g e none)

  -- a name that stands for no inode in use isn't there
  pub not_named : (row : Row) → Contains rows row → (name : List ℕ) → IsNoneNamed rows row name → name_at row.names name ≡ None
  not_named row c name none = by (name_at row.names name) refl none where
    by : (o : Option (ℕ × ℕ)) → name_at row.names name ≡ o → option_and_then (row_of rows) (option_map (λ (x : ℕ × ℕ). x.0) o) ≡ None → name_at row.names name ≡ None
    by None e none = e
    by (Some x) e none =
        let kept = in_rows in
        let w = kept.each row c in
        let told = w.2 in
        let sound = m.sound in
        let faultless = sound.faultless in
        let cross = faultless.named in
        let is : (graph_in l held).name row.inode name ≡ Some x.0 =
        ap (λ (o : Option Held). option_and_then (target_in l name) o) w.1 ∙ ap (λ (o : Option (ℕ × ℕ)). option_map (λ (y : ℕ × ℕ). y.0) o) (sym (told.names name) ∙ e) in
        let used = cross.in_use row.inode name x.0 is in
        let gone : option_map (node_in l) (held x.0) ≡ None = ap (λ (o : Option Held). option_map (node_in l) o) (not_held x.0 none) in
        let clash : None ≡ Some used.0 = sym gone ∙ used.1 in
        absurd (cc)

-- Nor is it where the file system can be written.
pub name_absent : {R : Region} {s : Super} {l : Layout} {rows : List Row} {free : FreeLists} {faults : List Fault} {read_only stopped : Bool} → IsKept R s l rows free faults read_only stopped → stopped ≡ false → read_only ≡ false → (row : Row) → Contains rows row → (name : List ℕ) → IsNoneNamed rows row name → name_at row.names name ≡ None
name_absent {R} {s} {l} {rows} kept runs writes row here name none = ∥∥₁_elim (mounted_of_kept kept runs writes) prop (λ w. not_named w.1 row here name none) where
  prop : IsProp (name_at row.names name ≡ None)
  prop = hlevel (props, ℕ_set)

-- two inodes changed, in either order
two_changes : (held : Store) (i j : ℕ) (a b : Option Held) → i ≢ j → with_inode (with_inode held i a) j b ≡ with_inode (with_inode held j b) i a
two_changes held i j a b differ = λ t k. (each k) t where
  each : (k : ℕ) → with_inode (with_inode held i a) j b k ≡ with_inode (with_inode held j b) i a k
  each k = elim (cases_eq k j) [
    | inl same ↦ (
        let on : nat_eq k j ≡ true = grind (arith, nat_tests) in
        let off : nat_eq k i ≡ false = grind (arith, nat_tests) in
        ap (λ (t : Bool). cond t b (with_inode held i a k)) on ∙ sym (ap (λ (t : Bool). cond t a (with_inode held j b k)) off ∙ ap (λ (t : Bool). cond t b (held k)) on))
    | inr other ↦ (
        let off : nat_eq k j ≡ false = grind (arith, nat_tests) in
        ap (λ (t : Bool). cond t b (with_inode held i a k)) off ∙ ap (λ (o : Option Held). cond (nat_eq k i) a o) (sym (ap (λ (t : Bool). cond t b (held k)) off)))
  ]

module _ {R S : Region} {s : Super} {l : Layout} {rows news : List Row} {free after : FreeLists} {faults : List Fault} {read_only stopped : Bool} (kept : IsKept R s l rows free faults read_only stopped) (runs : stopped ≡ false) (writes : read_only ≡ false)
    {place : ℕ} {kind : Kind} {cpu mode time j : ℕ} {name : List ℕ} (step : CreatesAt R S l free after cpu rows news place kind mode time j name) (directory : step.row.kind ≡ Directory) (good : IsGoodName l.sup j name)
    (unused : row_of rows j ≡ None) (absent : IsNoneNamed rows step.row name) where
  abbrev row : Row
  row = step.row

  abbrev here : Contains rows row
  here = stands rows place row step.at

  inside : place < length rows
  inside = slice_get_within rows place row step.at

  abbrev makes_page : ℕ
  makes_page = step.step.page

  abbrev makes_fresh : List ℕ
  makes_fresh = step.step.fresh

  apart : Contains makes_fresh makes_page → ⊥
  apart c = let made = step.step in all_differ made.taken 0 (suc c.0) (omega arith) (omega (arith, c.1)) (sym (get_or_default made.fresh c.0 0 made.page c.1 ∙ c.2))

  -- what is held, and what it shows of the directory
  module _ (held : Store) (m : IsMounted R l held rows free.pools) where
    abbrev pub h : Held
    h = (shows_row {free = free} m kept.lists row here).0

    shows : ShowsRow R l held h row free
    shows = (shows_row {free = free} m kept.lists row here).1

    out : held j ≡ None
    out = not_held m j unused

    of_kind : h.kind ≡ Directory
    of_kind = let told = shows.told in sym told.kind ∙ directory

    not_there : (graph_in l held).name row.inode name ≡ None
    not_there =
        let told = shows.told in
        ap (λ (o : Option Held). option_and_then (target_in l name) o) shows.holds ∙ ap (λ (o : Option (ℕ × ℕ)). option_map (λ (y : ℕ × ℕ). y.0) o) (sym (told.names name) ∙ not_named m row here name absent)

    count : length makes_fresh ≡ needed (h.tail % 4096) (name_entries Add j name time)
    count = let made = step.step in let told = shows.told in made.count ∙ ap (λ (t : ℕ). needed (t % 4096) (name_entries Add j name time)) told.tail

    abbrev then : Store
    then = with_named held kind mode time j row.inode h name makes_page makes_fresh

    sound_then : ShowsSound S l then
    sound_then =
        let made = step.step in
        let seen = made.shows held h shows out in
        made_sound kind mode time j name made.page made.fresh shows out of_kind good not_there kept.lists made.taken apart count seen.idle

    bytes_then : (i : ℕ) (g : Held) → held i ≡ Some g → (x : ℕ) → byte_of S l g x ≡ byte_of R l g x
    bytes_then = let made = step.step in let seen = made.shows held h shows out in seen.bytes

    differ : row.inode ≢ j
    differ same = let e : Some h ≡ None = sym shows.holds ∙ ap held same ∙ out in cc

    rows_then : KeepsRows l then news
    rows_then =
        let made = step.step in
        let put = step.put in
        let new = made.row in
        let follow = rows_follow l held row.inode (extended h (name_entries Add j name time) made.fresh) rows (in_rows m) place inside step.now (number_at rows place row step.now step.at) dir.inode dir_told in
        let still_out : with_inode held row.inode (Some (extended h (name_entries Add j name time) made.fresh)) j ≡ None = other_held held row.inode j (Some (extended h (name_entries Add j name time) made.fresh)) (λ e. differ (sym e)) ∙ out in
        let more = rows_more l (with_inode held row.inode (Some (extended h (name_entries Add j name time) made.fresh))) j (new_held kind mode time made.page) (set rows place step.now) news step.made follow still_out put.rising
        (λ r c. from_inserted (set rows place step.now) put.place step.made r (subst (λ (rs : List Row). Contains rs r) put.all c)) (λ r c. subst (λ (rs : List Row). Contains rs r) (sym put.all) (stays_inserted (set rows place step.now) put.place step.made r c))
        (subst (λ (rs : List Row). Contains rs step.made) (sym put.all) (is_inserted (set rows place step.now) put.place step.made)) new.inode
        (new_told kind mode time j name made.page made.fresh shows out of_kind good not_there kept.lists made.taken apart count new) in
        subst (λ (st : Store). KeepsRows l st news) (two_changes held row.inode j (Some (extended h (name_entries Add j name time) made.fresh)) (Some (new_held kind mode time made.page)) differ) more
      where
        dir : HasNamed row makes_fresh (end_of makes_fresh 0 row.tail (name_entries Add j name time)) name j (place_named makes_fresh row.tail j name time) time step.now
        dir = let made = step.step in made.directory

        dir_told : KeepsRow l (extended h (name_entries Add j name time) makes_fresh) step.now
        dir_told = let made = step.step in named_told l j name time made.fresh shows.told directory good made.count made.directory

    -- The rows and the free lists are those of what is held.
    pub mounted_then : IsMounted S l then news after.pools
    mounted_then =
        let made = step.step in
        record {
          sound = sound_then;
          keeps = record {
            in_rows = rows_then;
            in_lists = made_lists kind mode time j name made.page made.fresh shows out of_kind good not_there kept.lists made.taken apart count;
          };
        }

  -- What is kept then.
  pub kept_then : (now : Bool) → IsKept S s l news after faults read_only now
  kept_then now =
      let made = step.step in
      kept_of_mounted S s l news after faults read_only now kept.tables kept.writes writes (taken_sup made.taken ∙ kept.lists) (∥∥₁_map (mounted_of_kept kept runs writes) (λ w. (with_named w.0 kind mode time j row.inode (h w.0 w.1) name makes_page makes_fresh, mounted_then w.0 w.1)))

  -- Each byte that a row's file had is where it was.
  pub bytes_kept : (r : Row) → Contains rows r → (x : ℕ) → byte_in S (block_at r.index (x / 4096)) x ≡ byte_in R (block_at r.index (x / 4096)) x
  bytes_kept = bytes_stay kept runs writes S bytes_then

  -- The new inode and its name, by what is mounted.
  pub was_created : (held : Store) (m : IsMounted R l held rows free.pools) (g : Held) → held row.inode ≡ Some g → WasCreated S l free.pools cpu held kind mode time j row.inode g name
  was_created held m g is =
      let shown = shows held m in
      let both : Some (h held m) ≡ Some g = sym shown.holds ∙ is in
      let same : h held m ≡ g = cc in
      subst (λ (k : Held). WasCreated S l free.pools cpu held kind mode time j row.inode k name) same (record {
        page = makes_page;
        fresh = makes_fresh;
        rest = after.pools;
        taken = (let made = step.step in by_rule made.taken);
        free = (let made = step.step in all_free kind mode time j name made.page made.fresh shown (out held m) (of_kind held m) good (not_there held m) kept.lists made.taken apart (count held m));
        apart = apart;
        count = count held m;
        sound = sound_then held m;
      })

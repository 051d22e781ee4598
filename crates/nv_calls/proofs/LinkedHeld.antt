-- What is held once a file has a name more: both rows are of it, and nothing is wrong with it.
use Rattle.std.proofs.Common.{◌≡◌, ◌≢◌, ℕ, ◌+◌, ◌%◌, ◌<◌, ◌≤◌, List, ◌++◌, length, slice_get, take, take_all, ap, sym, ◌∙◌, subst, arith, Option, Some, None}
use Rattle.std.specs.List.{Contains}
use Rattle.std.specs.Option.{option_and_then, option_map}
use Rattle.nv_region.specs.Region.{Region}
use Rattle.nv_super.specs.declared.kind.Kind.TheVariants.{File, Directory}
use Rattle.nv_super.specs.Layout.{Layout}
use Rattle.nv_super.specs.Order.{Rises}
use Rattle.nv_alloc.specs.FreeValue.{FreeLists}
use Rattle.nv_entry.specs.declared.entry.Entry.{Entry}
use Rattle.nv_entry.specs.declared.entry.Entry.TheVariants.{Links}
use Rattle.nv_entry.specs.declared.entry.Operation.TheVariants.{Add}
use Rattle.nv_logpage.specs.Append.{end_of, needed, place_of}
use Rattle.nv_scan.specs.declared.piece.Row.{Row}
use Rattle.nv_cross_check.specs.Cross.{row_key}
use Rattle.nv_mounted.specs.Held.{Held, Store}
use Rattle.nv_mounted.specs.Blocks.{OwnsNew}
use Rattle.nv_mounted.specs.Graph.{graph_in, node_in, target_in}
use Rattle.nv_mounted.specs.Grows.{SameFile}
use Rattle.nv_mounted.specs.Mounted.{IsFaultless, IsMounted, KeepsRow}
use Rattle.nv_graph.specs.Read.{row_of}
use Rattle.nv_graph.specs.Step.{IsGoodName}
use Rattle.nv_commit.specs.Extends.{extended, with_log}
use Rattle.nv_commit.proofs.Called.{linked_faultless}
use Rattle.nv_steps.specs.NameEntries.{links_entries, name_entries}
use Rattle.nv_steps.specs.MoreNames.{HasCounted, LinksAt}
use Rattle.nv_steps.specs.NewNames.{place_named}
use Rattle.nv_paths.specs.Spots.{IsNoneNamed}
use Rattle.nv_steps.specs.Steps.{ShowsRow}
use Rattle.nv_calls.proofs.BothMounted.{IsRight}
use Rattle.nv_calls.proofs.CreatedRows.{not_named}
use Rattle.nv_steps.proofs.LinksEntries.{links_file, links_names, links_numbers}
use Rattle.nv_steps.proofs.NamedLogs.{named_file, named_told}
use Rattle.nv_super.proofs.Members.{stands}
use Rattle.nv_steps.proofs.RowOf.{row_at}

-- ---- a file that counts a link more or less

module _ {R : Region} {l : Layout} {held : Store} {f : Held} {file : Row} {free : FreeLists} (n time : ℕ) (fresh : List ℕ) (shows : ShowsRow R l held f file free) (is_file : file.kind ≡ File) (some : 0 < n) (few : n ≤ 1000) where
  abbrev entries : List Entry
  entries = links_entries n time

  of_kind : f.kind ≡ File
  of_kind = let told = shows.told in sym told.kind ∙ is_file

  pub counted_file : SameFile l f (extended f entries fresh)
  counted_file = links_file l f of_kind (place_of fresh 0 f.tail (Links (record { count = n; time = time }))) n time (end_of fresh 0 f.tail entries) (take (needed (f.tail % 4096) entries) fresh) some few

  -- Its row is of its log.
  pub counted_told : {now : Row} → length fresh ≡ needed (file.tail % 4096) entries → HasCounted file fresh (end_of fresh 0 file.tail entries) n time now → KeepsRow l (extended f entries fresh) now
  counted_told {now} count has =
      let told = shows.told in
      let at = place_of fresh 0 f.tail (Links (record { count = n; time = time })) in
      let end = end_of fresh 0 f.tail entries in
      let pages = take (needed (f.tail % 4096) entries) fresh in
      let counted : length fresh ≡ needed (f.tail % 4096) entries = count ∙ ap (λ (t : ℕ). needed (t % 4096) entries) told.tail in
      let all : pages ≡ fresh = take_all (needed (f.tail % 4096) entries) fresh (omega (arith, counted)) in
      record {
        kind = has.kind ∙ told.kind;
        numbers = links_numbers l f of_kind at n time end pages some few file.numbers now.numbers told.numbers has.numbers;
        head = has.head ∙ told.head;
        tail = has.tail ∙ ap (λ (t : ℕ). end_of fresh 0 t entries) told.tail;
        pages = has.pages ∙ ap (λ (ps : List ℕ). ps ++ fresh) told.pages ∙ ap (λ (ps : List ℕ). f.pages ++ ps) (sym all);
        index = λ p. has.index p ∙ told.index p ∙ sym (counted_file p);
        names = λ q. has.names q ∙ told.names q ∙ sym (links_names l f of_kind at n time end pages some few q);
      }

-- ---- the directory

-- a name that no row's inode has isn't in the graph
pub absent_in : {R : Region} {l : Layout} {held : Store} {h : Held} {row : Row} {rows : List Row} {free : FreeLists} (name : List ℕ) → IsMounted R l held rows free.pools → ShowsRow R l held h row free → Contains rows row → IsNoneNamed rows row name
    → (graph_in l held).name row.inode name ≡ None
absent_in {R} {l} {held} {h} {row} {rows} {free} name m shows here none =
    let told = shows.told in
    ap (λ (o : Option Held). option_and_then (target_in l name) o) shows.holds ∙ ap (λ (o : Option (ℕ × ℕ)). option_map (λ (y : ℕ × ℕ). y.0) o) (sym (told.names name) ∙ not_named m row here name none)

-- rows of different kinds have different numbers
pub kinds_differ : (rows : List Row) (i j : ℕ) (file directory : Row) → Rises row_key rows → slice_get rows i ≡ Some file → slice_get rows j ≡ Some directory → file.kind ≡ File → directory.kind ≡ Directory → file.inode ≢ directory.inode
kinds_differ rows i j file directory rising at other_at is_file is_directory same =
    let both : Some file ≡ Some directory = sym (row_at rows i file rising at) ∙ ap (row_of rows) same ∙ row_at rows j directory rising other_at in
    let one : file ≡ directory = cc in
    let clash : File ≡ Directory = sym is_file ∙ ap (λ (r : Row). r.kind) one ∙ is_directory in
    cc

-- and stand at different places
pub kinds_apart : (rows : List Row) (i j : ℕ) (file directory : Row) → slice_get rows i ≡ Some file → slice_get rows j ≡ Some directory → file.kind ≡ File → directory.kind ≡ Directory → i ≢ j
kinds_apart rows i j file directory at other_at is_file is_directory same =
    let both : Some file ≡ Some directory = sym at ∙ ap (slice_get rows) same ∙ other_at in
    let one : file ≡ directory = cc in
    let clash : File ≡ Directory = sym is_file ∙ ap (λ (r : Row). r.kind) one ∙ is_directory in
    cc

module _ {R S : Region} {l : Layout} {rows news : List Row} {free after : FreeLists} {cpu target place : ℕ} {name : List ℕ} {time : ℕ} (step : LinksAt R S l free after cpu rows news target place name time)
    (is_file : step.file.kind ≡ File) (is_directory : step.directory.kind ≡ Directory) (few : step.file.numbers.links < 1000) (good : IsGoodName l.sup step.file.inode name) (absent : IsNoneNamed rows step.directory name) where
  abbrev i : ℕ
  i = step.file.inode

  abbrev d : ℕ
  d = step.directory.inode

  abbrev links : ℕ
  links = step.file.numbers.links

  abbrev fresh_blocks : List ℕ
  fresh_blocks = step.step.fresh

  abbrev more_blocks : List ℕ
  more_blocks = step.step.more

  module _ (held : Store) (f h : Held) (m : IsMounted R l held rows free.pools) (shows : ShowsRow R l held f step.file free) (shows_directory : ShowsRow R l held h step.directory free) where
    links_are : links ≡ (node_in l f).links
    links_are = let told = shows.told in let numbers = told.numbers in numbers.links

    file_kind : f.kind ≡ File
    file_kind = let told = shows.told in sym told.kind ∙ is_file

    directory_kind : h.kind ≡ Directory
    directory_kind = let told = shows_directory.told in sym told.kind ∙ is_directory

    was : IsFaultless l held
    was = let sound = shows.sound in sound.faultless

    not_there : (graph_in l held).name d name ≡ None
    not_there = let both = step.step in absent_in {free = free} name m shows_directory (stands rows place step.directory both.other_at) absent

    abbrev Follows : ℕ → Type 0
    Follows n = n < 1000 → OwnsNew l held i (Some (extended f (links_entries (n + 1) time) fresh_blocks))
        → OwnsNew l (with_log held i f (links_entries (n + 1) time) fresh_blocks) d (Some (extended h (name_entries Add i name time) more_blocks))
        → IsFaultless l (with_log (with_log held i f (links_entries (n + 1) time) fresh_blocks) d h (name_entries Add i name time) more_blocks)

    follows : Follows (node_in l f).links
    follows below = linked_faultless l held was d h shows_directory.holds directory_kind i name good (place_named more_blocks h.tail i name time) time (end_of more_blocks 0 h.tail (name_entries Add i name time))
        (take (needed (h.tail % 4096) (name_entries Add i name time)) more_blocks) f shows.holds file_kind (place_of fresh_blocks 0 f.tail (Links (record { count = (node_in l f).links + 1; time = time })))
        (end_of fresh_blocks 0 f.tail (links_entries ((node_in l f).links + 1) time)) (take (needed (f.tail % 4096) (links_entries ((node_in l f).links + 1) time)) fresh_blocks) below not_there

    linked_right : Follows links
    linked_right = subst Follows (sym links_are) follows

  -- What is owed of the call is so.
  pub link_right : IsRight R l free rows step.file (links_entries (links + 1) time) fresh_blocks step.step.first_now step.directory (name_entries Add i name time) more_blocks step.step.second_now
  link_right = record {
    number = (let both = step.step in let counted = both.is in counted.inode);
    other_number = (let both = step.step in let named = both.other_is in named.inode);
    stays = λ held f shows. counted_file (links + 1) time fresh_blocks shows is_file (omega arith) (omega (arith, few));
    other_stays = λ held h shows. named_file l i name time more_blocks shows.told is_directory good Add;
    told = λ held f shows. (let both = step.step in counted_told (links + 1) time fresh_blocks shows is_file (omega arith) (omega (arith, few)) both.count both.is);
    other_told = λ held h shows. (let both = step.step in named_told l i name time more_blocks shows.told is_directory good both.more_count both.other_is);
    faultless = λ held f h m shows shows_directory. linked_right held f h m shows shows_directory few;
  }

-- What is held once a name was given to another inode of its directory, and the file that had it counts a link less: nothing is wrong
-- with it, and both rows are of it.
use Rattle.std.proofs.Common.{◌≡◌, ◌≢◌, ℕ, ◌-◌, ◌%◌, ◌<◌, ◌≤◌, not, true, false, nat_lt, ◌&&◌, List, ◌∷◌, slice_get, take, refl, ap, sym, ◌∙◌, subst, arith, Some}
use Rattle.nv_region.specs.Region.{Region}
use Rattle.nv_super.specs.declared.kind.Kind.{Kind}
use Rattle.nv_super.specs.declared.kind.Kind.TheVariants.{File, Directory}
use Rattle.nv_super.specs.Layout.{Layout}
use Rattle.nv_alloc.specs.FreeValue.{FreeLists}
use Rattle.nv_entry.specs.declared.entry.Entry.{Entry}
use Rattle.nv_entry.specs.declared.entry.Entry.TheVariants.{Links}
use Rattle.nv_logpage.specs.Append.{end_of, needed, place_of}
use Rattle.nv_scan.specs.declared.piece.Row.{Row}
use Rattle.nv_mounted.specs.Held.{Held, Store}
use Rattle.nv_mounted.specs.Blocks.{OwnsNew}
use Rattle.nv_mounted.specs.Graph.{node_in}
use Rattle.nv_mounted.specs.Mounted.{IsFaultless, IsMounted}
use Rattle.nv_graph.specs.Step.{IsGoodName}
use Rattle.nv_commit.specs.Extends.{extended, with_log}
use Rattle.nv_commit.specs.ReplacedNames.{CanTakeName}
use Rattle.nv_commit.proofs.Takes.{less_within}
use Rattle.nv_tree.specs.Tree.{is_directory as tree_directory}
use Rattle.nv_paths.specs.ReplaceSpots.{IsReplaceSpot}
use Rattle.nv_paths.specs.Seen.{tree_of}
use Rattle.nv_steps.specs.Lessens.{LessensAt}
use Rattle.nv_steps.specs.NameEntries.{links_entries}
use Rattle.nv_steps.specs.Steps.{ShowsRow}
use Rattle.nv_steps.specs.Takes.{take_entries}
use Rattle.nv_calls.specs.ReplaceCalls.{keeps_others}
use Rattle.nv_calls.proofs.BothMounted.{IsRight}
use Rattle.nv_graph.proofs.Ways.{way_to}
use Rattle.nv_calls.proofs.LinkedHeld.{counted_file, counted_told}
use Rattle.nv_calls.proofs.ReplaceAt.{more_links}
use Rattle.nv_calls.proofs.TakenRow.{first_place, second_place, takes_file, takes_told, third_place}
use Rattle.nv_calls.proofs.TakenSpot.{can_take, spot_directory}
use Rattle.nv_calls.proofs.UnlinkedHeld.{few_links}

-- what stays without a name is a file
pub stays_file : (row : Row) → keeps_others row ≡ true → row.kind ≡ File
stays_file row on = by row.kind refl where
  by : (k : Kind) → row.kind ≡ k → row.kind ≡ File
  by File is = is
  by Directory is = absurd (let clash : false ≡ true = sym (ap (λ (k : Kind). not (tree_directory k) && nat_lt 1 row.numbers.links) is) ∙ on in cc)

module _ {R S : Region} {l : Layout} {rows news : List Row} {free after : FreeLists} {cpu place source target : ℕ} {name other : List ℕ} {time : ℕ} (moved : Row) (moved_at : slice_get rows source ≡ Some moved) (step : LessensAt R S l free after cpu rows news place target moved.inode name other time)
    (names : List (List ℕ)) (first : List ℕ) (rest : List (List ℕ)) (spot : IsReplaceSpot (tree_of R rows) rows names (first ∷ rest) place name source place other (Some step.file.inode)) (good : IsGoodName l.sup moved.inode name) (good_other : IsGoodName l.sup moved.inode other) (good_there : IsGoodName l.sup step.file.inode other)
    (apart : moved.inode ≢ step.file.inode) (stays : keeps_others step.file ≡ true) where
  abbrev i : ℕ
  i = moved.inode

  abbrev j : ℕ
  j = step.file.inode

  abbrev d : ℕ
  d = step.directory.inode

  abbrev links : ℕ
  links = step.file.numbers.links

  abbrev entries : List Entry
  entries = take_entries i j name other time

  abbrev fresh_blocks : List ℕ
  fresh_blocks = step.step.fresh

  abbrev more_blocks : List ℕ
  more_blocks = step.step.more

  at : slice_get rows place ≡ Some step.directory
  at = let both = step.step in both.at

  file_at : slice_get rows target ≡ Some step.file
  file_at = let both = step.step in both.other_at

  is_directory : step.directory.kind ≡ Directory
  is_directory = spot_directory R l rows target moved at at moved_at file_at names first rest spot apart

  is_file : step.file.kind ≡ File
  is_file = stays_file step.file stays

  some : 1 < links
  some = more_links step.file stays

  module _ (held : Store) (h f : Held) (m : IsMounted R l held rows free.pools) (shows : ShowsRow R l held h step.directory free) (shows_file : ShowsRow R l held f step.file free) where
    links_are : links ≡ (node_in l f).links
    links_are = let told = shows_file.told in let numbers = told.numbers in numbers.links

    file_kind : f.kind ≡ File
    file_kind = let told = shows_file.told in sym told.kind ∙ is_file

    can : CanTakeName l held d h name (way_to (first ∷ rest)) d h other i j f
    can = can_take R l rows target moved at at moved_at file_at names first rest spot apart free m shows shows shows_file good good_other good_there

    abbrev Follows : ℕ → Type 0
    Follows n = 1 < n → n ≤ 1000 → OwnsNew l held d (Some (extended h entries fresh_blocks))
        → OwnsNew l (with_log held d h entries fresh_blocks) j (Some (extended f (links_entries (n - 1) time) more_blocks))
        → IsFaultless l (with_log (with_log held d h entries fresh_blocks) j f (links_entries (n - 1) time) more_blocks)

    follows : Follows (node_in l f).links
    follows more small own other_own =
        let count = (node_in l f).links - 1 in
        less_within l held d h name (way_to (first ∷ rest)) d h other i j f can (first_place l i j name other time fresh_blocks shows.told is_directory good good_there good_other) time (end_of fresh_blocks 0 h.tail entries)
        (take (needed (h.tail % 4096) entries) fresh_blocks) (second_place l i j name other time fresh_blocks shows.told is_directory good good_there good_other) (third_place l i j name other time fresh_blocks shows.told is_directory good good_there good_other) refl own file_kind more small
        (place_of more_blocks 0 f.tail (Links (record { count = count; time = time }))) (end_of more_blocks 0 f.tail (links_entries count time)) (take (needed (f.tail % 4096) (links_entries count time)) more_blocks) other_own

    lessened_right : Follows links
    lessened_right = subst Follows (sym links_are) follows

  -- What is owed of the call is so.
  pub lessen_right : IsRight R l free rows step.directory entries fresh_blocks step.step.first_now step.file (links_entries (links - 1) time) more_blocks step.step.second_now
  lessen_right = record {
    number = (let both = step.step in let has = both.is in has.inode);
    other_number = (let both = step.step in let counted = both.other_is in counted.inode);
    stays = λ held h shows. takes_file l i j name other time fresh_blocks shows.told is_directory good good_there good_other;
    other_stays = λ held f shows. (let few = few_links shows in counted_file (links - 1) time more_blocks shows is_file (omega (arith, some)) (omega (arith, few)));
    told = λ held h shows. (let both = step.step in takes_told l i j name other time fresh_blocks shows.told is_directory good good_there good_other both.count both.is);
    other_told = λ held f shows. (let few = few_links shows in let both = step.step in counted_told (links - 1) time more_blocks shows is_file (omega (arith, some)) (omega (arith, few)) both.more_count both.other_is);
    faultless = λ held h f m shows shows_file. lessened_right held h f m shows shows_file some (few_links shows_file);
  }

-- What is held once a file that has others has a name less: nothing is wrong with it, and both rows are of it.
use Rattle.std.proofs.Common.{◌≡◌, ℕ, ◌-◌, ◌%◌, ◌<◌, ◌≤◌, List, take, ap, sym, ◌∙◌, subst, arith, Option, Some}
use Rattle.std.specs.Option.{option_and_then, option_map}
use Rattle.nv_region.specs.Region.{Region}
use Rattle.nv_super.specs.declared.kind.Kind.TheVariants.{File, Directory}
use Rattle.nv_super.specs.Layout.{Layout}
use Rattle.nv_alloc.specs.FreeValue.{FreeLists}
use Rattle.nv_entry.specs.declared.entry.Entry.TheVariants.{Links, Name}
use Rattle.nv_entry.specs.declared.entry.Operation.TheVariants.{Remove}
use Rattle.nv_logpage.specs.Append.{end_of, needed, place_of}
use Rattle.nv_names.specs.Names.{name_at}
use Rattle.nv_scan.specs.declared.piece.Row.{Row}
use Rattle.nv_mounted.specs.Held.{Held, Store}
use Rattle.nv_mounted.specs.Blocks.{OwnsNew}
use Rattle.nv_mounted.specs.Graph.{graph_in, node_in, target_in}
use Rattle.nv_mounted.specs.Mounted.{IsFaultless}
use Rattle.nv_graph.specs.Step.{IsGoodName}
use Rattle.nv_graph.proofs.GoodEntries.{links_small}
use Rattle.nv_commit.specs.Extends.{extended, with_log}
use Rattle.nv_commit.proofs.Called.{unlinked_faultless}
use Rattle.nv_steps.specs.NameEntries.{links_entries, name_entries}
use Rattle.nv_steps.specs.Steps.{ShowsRow}
use Rattle.nv_steps.specs.Unlinks.{UnlinksAt}
use Rattle.nv_calls.proofs.BothMounted.{IsRight}
use Rattle.nv_calls.proofs.LinkedHeld.{counted_file, counted_told}
use Rattle.nv_steps.proofs.NamedLogs.{lost_told, named_file}

-- no file has more than a thousand links
pub few_links : {R : Region} {l : Layout} {held : Store} {f : Held} {file : Row} {free : FreeLists} → ShowsRow R l held f file free → file.numbers.links ≤ 1000
few_links {l = l} {f = f} shows = let told = shows.told in let numbers = told.numbers in subst (λ (n : ℕ). n ≤ 1000) (sym numbers.links) (links_small l.sup f.kind f.entries)

module _ {R S : Region} {l : Layout} {rows news : List Row} {free after : FreeLists} {cpu place target : ℕ} {name : List ℕ} {time : ℕ} (step : UnlinksAt R S l free after cpu rows news place target name time)
    (is_directory : step.directory.kind ≡ Directory) (is_file : step.file.kind ≡ File) (some : 1 < step.file.numbers.links) (good : IsGoodName l.sup step.file.inode name) (named : option_map (λ (x : ℕ × ℕ). x.0) (name_at step.directory.names name) ≡ Some step.file.inode) where
  abbrev i : ℕ
  i = step.file.inode

  abbrev d : ℕ
  d = step.directory.inode

  abbrev links : ℕ
  links = step.file.numbers.links

  abbrev fresh_blocks : List ℕ
  fresh_blocks = step.step.fresh

  abbrev more_blocks : List ℕ
  more_blocks = step.step.more

  module _ (held : Store) (h f : Held) (shows : ShowsRow R l held h step.directory free) (shows_file : ShowsRow R l held f step.file free) where
    links_are : links ≡ (node_in l f).links
    links_are = let told = shows_file.told in let numbers = told.numbers in numbers.links

    file_kind : f.kind ≡ File
    file_kind = let told = shows_file.told in sym told.kind ∙ is_file

    directory_kind : h.kind ≡ Directory
    directory_kind = let told = shows.told in sym told.kind ∙ is_directory

    was : IsFaultless l held
    was = let sound = shows.sound in sound.faultless

    is_there : (graph_in l held).name d name ≡ Some i
    is_there =
        let told = shows.told in
        ap (λ (o : Option Held). option_and_then (target_in l name) o) shows.holds ∙ ap (λ (o : Option (ℕ × ℕ)). option_map (λ (y : ℕ × ℕ). y.0) o) (sym (told.names name)) ∙ named

    abbrev Follows : ℕ → Type 0
    Follows n = 1 < n → n ≤ 1000 → OwnsNew l held d (Some (extended h (name_entries Remove i name time) fresh_blocks))
        → OwnsNew l (with_log held d h (name_entries Remove i name time) fresh_blocks) i (Some (extended f (links_entries (n - 1) time) more_blocks))
        → IsFaultless l (with_log (with_log held d h (name_entries Remove i name time) fresh_blocks) i f (links_entries (n - 1) time) more_blocks)

    follows : Follows (node_in l f).links
    follows more small = unlinked_faultless l held was d h shows.holds directory_kind i name good (place_of fresh_blocks 0 h.tail (Name (record { operation = Remove; inode = i; time = time; name = name }))) time (end_of fresh_blocks 0 h.tail (name_entries Remove i name time))
        (take (needed (h.tail % 4096) (name_entries Remove i name time)) fresh_blocks) f shows_file.holds file_kind (place_of more_blocks 0 f.tail (Links (record { count = (node_in l f).links - 1; time = time })))
        (end_of more_blocks 0 f.tail (links_entries ((node_in l f).links - 1) time)) (take (needed (f.tail % 4096) (links_entries ((node_in l f).links - 1) time)) more_blocks) more small is_there

    unlinked_right : Follows links
    unlinked_right = subst Follows (sym links_are) follows

  -- What is owed of the call is so.
  pub unlink_right : IsRight R l free rows step.directory (name_entries Remove i name time) fresh_blocks step.step.first_now step.file (links_entries (links - 1) time) more_blocks step.step.second_now
  unlink_right = record {
    number = (let both = step.step in let lost = both.is in lost.inode);
    other_number = (let both = step.step in let counted = both.other_is in counted.inode);
    stays = λ held h shows. named_file l i name time fresh_blocks shows.told is_directory good Remove;
    other_stays = λ held f shows. (let few = few_links shows in counted_file (links - 1) time more_blocks shows is_file (omega (arith, some)) (omega (arith, few)));
    told = λ held h shows. (let both = step.step in lost_told l i name time fresh_blocks shows.told is_directory good both.count both.is);
    other_told = λ held f shows. (let few = few_links shows in let both = step.step in counted_told (links - 1) time more_blocks shows is_file (omega (arith, some)) (omega (arith, few)) both.more_count both.other_is);
    faultless = λ held h f m shows shows_file. unlinked_right held h f shows shows_file some (few_links shows_file);
  }

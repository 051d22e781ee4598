-- What is held once a name was given to another inode of its directory and the first one is gone: nothing is wrong with it, and the
-- free lists are of it.
use Rattle.std.proofs.Common.{◌≡◌, ◌≢◌, ℕ, ◌%◌, inl, inr, List, length, take, refl, ap, sym, ◌∙◌, Option, Some, None}
use Rattle.std.specs.Option.{option_and_then, option_map}
use Rattle.nv_region.specs.Region.{Region}
use Rattle.nv_super.specs.declared.kind.Kind.TheVariants.{File, Directory}
use Rattle.nv_super.specs.Layout.{Layout}
use Rattle.nv_super.proofs.Options.{some_is}
use Rattle.nv_alloc.specs.FreeValue.{FreeLists}
use Rattle.nv_entry.specs.declared.entry.Entry.{Entry}
use Rattle.nv_logpage.specs.Append.{end_of, needed}
use Rattle.nv_names.specs.Names.{name_at}
use Rattle.nv_scan.specs.declared.piece.Row.{Row}
use Rattle.nv_mounted.specs.Held.{Held, Store}
use Rattle.nv_mounted.specs.Blocks.{KeepsFree, OwnsNew}
use Rattle.nv_mounted.specs.Graph.{graph_in, target_in}
use Rattle.nv_mounted.specs.Grows.{AreFree, SameFile}
use Rattle.nv_mounted.specs.Mounted.{KeepsRow, ShowsSound}
use Rattle.nv_commit.specs.Extends.{extended}
use Rattle.nv_commit.specs.ReplacedNames.{CanTakeName}
use Rattle.nv_commit.specs.ReplacedNames as held_names
use Rattle.nv_commit.specs.Together.{ShowsIdle}
use Rattle.nv_commit.proofs.Takes.{gone_within}
use Rattle.nv_steps.specs.LessNames.{GivesRow}
use Rattle.nv_steps.specs.NameEntries.{with_gone}
use Rattle.nv_steps.specs.Steps.{ShowsRow}
use Rattle.nv_steps.specs.Taken.{TakesEach}
use Rattle.nv_steps.specs.Takes.{take_entries}
use Rattle.nv_calls.specs.AtPlaces.{CanGo}
use Rattle.nv_calls.proofs.GoneHeld.{fresh_free, lists_then, own_then}
use Rattle.nv_calls.proofs.TakenSpot.{held_goes}
use Rattle.nv_calls.proofs.TakenRow.{first_place, second_place, takes_file, third_place}

module _ {R : Region} {l : Layout} {held : Store} {h f : Held} {row gone : Row} {free mid : FreeLists} {cpu : ℕ} (i : ℕ) (name other : List ℕ) (time : ℕ) (path : List (List ℕ)) (fresh : List ℕ) (shows : ShowsRow R l held h row free) (shows_gone : ShowsRow R l held f gone free)
    (directory : h.kind ≡ Directory) (can : CanTakeName l held row.inode h name path row.inode h other i gone.inode f) (can_go : CanGo gone) (lists : free.sup ≡ l.sup) (taken : TakesEach free cpu fresh mid) (count : length fresh ≡ needed (h.tail % 4096) (take_entries i gone.inode name other time)) where
  abbrev j : ℕ
  j = gone.inode

  abbrev entries : List Entry
  entries = take_entries i j name other time

  abbrev then : Store
  then = with_gone held row.inode h entries fresh j

  empty_there : ((q : List ℕ) → name_at gone.names q ≡ None) → (q : List ℕ) → (graph_in l held).name j q ≡ None
  empty_there none q =
      let told = shows_gone.told in
      ap (λ (o : Option Held). option_and_then (target_in l q) o) shows_gone.holds ∙ ap (λ (o : Option (ℕ × ℕ)). option_map (λ (y : ℕ × ℕ). y.0) o) (sym (told.names q) ∙ none q)

  held_go : held_names.CanGo l held j f
  held_go = held_goes shows_gone can_go

  -- the directory isn't what goes
  pub takes_apart : row.inode ≢ j
  takes_apart same = by can_go where
    by : CanGo gone → ⊥
    by (inl w) = let clash : None ≡ Some j = sym (empty_there w.1 other) ∙ ap (λ (d : ℕ). (graph_in l held).name d other) (sym same) ∙ can.taken in cc
    by (inr w) =
        let one : h ≡ f = some_is h f (held row.inode) shows.holds (ap held same ∙ shows_gone.holds) in
        let told = shows_gone.told in
        let clash : Directory ≡ File = sym directory ∙ ap (λ (x : Held). x.kind) one ∙ sym told.kind ∙ w.0 in
        cc

  told : KeepsRow l h row
  told = shows.told

  file_stays : SameFile l h (extended h entries fresh)
  file_stays = takes_file l i j name other time fresh told (told.kind ∙ directory) can.good can.good_there can.good_other

  pub takes_free : AreFree l held fresh
  takes_free = fresh_free entries fresh shows shows_gone takes_apart file_stays lists taken count

  module _ {S : Region} (idle : ShowsIdle S l then) where
    own : OwnsNew l held row.inode (Some (extended h entries fresh))
    own = own_then entries fresh shows shows_gone takes_apart file_stays lists taken count idle

    pub takes_lists : {after : FreeLists} (given : GivesRow mid gone after) → KeepsFree l then after.pools
    takes_lists given = lists_then entries fresh shows shows_gone takes_apart file_stays lists taken count idle given

    -- The region is sound.
    pub takes_sound : ShowsSound S l then
    takes_sound = record {
      tables = idle.tables;
      idle = idle.idle;
      shows = idle.shows;
      faultless = gone_within l held row.inode h name path row.inode h other i j f can (first_place l i j name other time fresh told (told.kind ∙ directory) can.good can.good_there can.good_other) time (end_of fresh 0 h.tail entries) (take (needed (h.tail % 4096) entries) fresh)
          (second_place l i j name other time fresh told (told.kind ∙ directory) can.good can.good_there can.good_other) (third_place l i j name other time fresh told (told.kind ∙ directory) can.good can.good_there can.good_other) refl own held_go;
    }

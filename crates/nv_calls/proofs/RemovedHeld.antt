-- What is held once a name and its inode are gone: nothing is wrong with it, and the free lists and the directory's row are of it.
use Rattle.std.proofs.Common.{◌≡◌, ◌≢◌, ℕ, ◌%◌, ◌≤◌, inl, inr, List, length, take, ap, sym, ◌∙◌, subst, Option, Some, None}
use Rattle.std.specs.Option.{option_and_then, option_map}
use Rattle.nv_region.specs.Region.{Region}
use Rattle.nv_super.specs.declared.kind.Kind.TheVariants.{File, Directory}
use Rattle.nv_super.specs.Layout.{Layout}
use Rattle.nv_super.proofs.Options.{some_is}
use Rattle.nv_alloc.specs.FreeValue.{FreeLists}
use Rattle.nv_entry.specs.declared.entry.Entry.{Entry}
use Rattle.nv_entry.specs.declared.entry.Entry.TheVariants.{Name}
use Rattle.nv_entry.specs.declared.entry.Operation.TheVariants.{Remove}
use Rattle.nv_logpage.specs.Append.{end_of, needed, place_of}
use Rattle.nv_names.specs.Names.{name_at}
use Rattle.nv_scan.specs.declared.piece.Row.{Row}
use Rattle.nv_mounted.specs.Held.{Held, Store}
use Rattle.nv_mounted.specs.Blocks.{KeepsFree, OwnsNew}
use Rattle.nv_mounted.specs.Graph.{graph_in, target_in}
use Rattle.nv_mounted.specs.Grows.{AreFree, SameFile}
use Rattle.nv_mounted.specs.Mounted.{IsFaultless, ShowsSound}
use Rattle.nv_graph.specs.Step.{IsGoodName}
use Rattle.nv_commit.specs.Extends.{extended}
use Rattle.nv_commit.specs.Together.{ShowsIdle}
use Rattle.nv_commit.proofs.Called.{directory_gone_faultless, file_gone_faultless}
use Rattle.nv_steps.specs.LessNames.{GivesRow}
use Rattle.nv_calls.specs.AtPlaces.{CanGo}
use Rattle.nv_steps.specs.NameEntries.{name_entries, with_gone}
use Rattle.nv_steps.specs.Steps.{ShowsRow}
use Rattle.nv_steps.specs.Taken.{TakesEach}
use Rattle.nv_steps.proofs.NameEntries.{name_file}
use Rattle.nv_steps.proofs.TakenBlocks.{are_free}
use Rattle.nv_calls.proofs.GoneHeld.{lists_then, own_then}

module _ {R : Region} {l : Layout} {held : Store} {h f : Held} {row gone : Row} {free mid : FreeLists} {cpu : ℕ} (time : ℕ) (name : List ℕ) (fresh : List ℕ) (shows : ShowsRow R l held h row free) (shows_gone : ShowsRow R l held f gone free)
    (directory : h.kind ≡ Directory) (good : IsGoodName l.sup gone.inode name) (named : (graph_in l held).name row.inode name ≡ Some gone.inode) (can_go : CanGo gone)
    (lists : free.sup ≡ l.sup) (taken : TakesEach free cpu fresh mid) (count : length fresh ≡ needed (h.tail % 4096) (name_entries Remove gone.inode name time)) where
  abbrev i : ℕ
  i = gone.inode

  abbrev entries : List Entry
  entries = name_entries Remove i name time

  abbrev grown_log : Held
  grown_log = extended h entries fresh

  abbrev then : Store
  then = with_gone held row.inode h entries fresh i

  abbrev at : ℕ
  at = place_of fresh 0 h.tail (Name (record { operation = Remove; inode = i; time = time; name = name }))

  abbrev end : ℕ
  end = end_of fresh 0 h.tail entries

  abbrev pages : List ℕ
  pages = take (needed (h.tail % 4096) entries) fresh

  was : IsFaultless l held
  was = let sound = shows.sound in sound.faultless

  empty_there : ((q : List ℕ) → name_at gone.names q ≡ None) → (q : List ℕ) → (graph_in l held).name i q ≡ None
  empty_there none q =
      let told = shows_gone.told in
      ap (λ (o : Option Held). option_and_then (target_in l q) o) shows_gone.holds ∙ ap (λ (o : Option (ℕ × ℕ)). option_map (λ (y : ℕ × ℕ). y.0) o) (sym (told.names q) ∙ none q)

  -- the directory isn't what goes
  pub differ : row.inode ≢ i
  differ same = by can_go where
    by : CanGo gone → ⊥
    by (inl w) = let clash : None ≡ Some i = sym (empty_there w.1 name) ∙ ap (λ (d : ℕ). (graph_in l held).name d name) (sym same) ∙ named in cc
    by (inr w) =
        let one : h ≡ f = some_is h f (held row.inode) shows.holds (ap held same ∙ shows_gone.holds) in
        let told = shows_gone.told in
        let clash : Directory ≡ File = sym directory ∙ ap (λ (x : Held). x.kind) one ∙ sym told.kind ∙ w.0 in
        cc

  file_stays : SameFile l h grown_log
  file_stays = name_file l h directory Remove i name good at time end pages

  pub fresh_free : AreFree l held fresh
  fresh_free = are_free taken l held shows.lists lists

  module _ {S : Region} (idle : ShowsIdle S l then) where
    own : OwnsNew l held row.inode (Some grown_log)
    own = own_then entries fresh shows shows_gone differ file_stays lists taken count idle

    pub removed_lists : {after : FreeLists} (given : GivesRow mid gone after) → KeepsFree l then after.pools
    removed_lists given = lists_then entries fresh shows shows_gone differ file_stays lists taken count idle given

    -- The region is sound.
    pub removed_sound : ShowsSound S l then
    removed_sound = record { tables = idle.tables; idle = idle.idle; shows = idle.shows; faultless = by can_go } where
      by : CanGo gone → IsFaultless l then
      by (inl w) =
          let told = shows_gone.told in
          directory_gone_faultless l held was row.inode h shows.holds directory i name good at time end pages f shows_gone.holds named own (sym told.kind ∙ w.0) (empty_there w.1)
      by (inr w) =
          let told = shows_gone.told in
          let numbers = told.numbers in
          file_gone_faultless l held was row.inode h shows.holds directory i name good at time end pages f shows_gone.holds named own (sym told.kind ∙ w.0) (subst (λ (n : ℕ). n ≤ 1) numbers.links w.1)

-- What is held once an inode was made: nothing is wrong with it, and the free lists and both rows are of it.
use Rattle.std.proofs.Common.{◌≡◌, ◌≢◌, ◌↔◌, ℕ, ◌*◌, ◌%◌, inl, inr, eqb, List, [], ◌∷◌, ◌++◌, length, take, take_all, refl, ap, sym, ◌∙◌, subst, arith, Some, None}
use Rattle.std.specs.List.{Contains, IsDistinct}
use Rattle.nv_region.specs.Region.{Region}
use Rattle.nv_super.specs.declared.kind.Kind.{Kind}
use Rattle.nv_super.specs.declared.kind.Kind.TheVariants.{Directory}
use Rattle.nv_super.specs.Layout.{Layout}
use Rattle.nv_super.proofs.Rising.{Contains-cons, Contains-head, Contains-tail}
use Rattle.nv_alloc.specs.FreeValue.{FreeLists}
use Rattle.nv_entry.specs.declared.entry.Entry.{Entry}
use Rattle.nv_entry.specs.declared.entry.Operation.TheVariants.{Add}
use Rattle.nv_logpage.specs.Append.{end_of, needed}
use Rattle.nv_logpage.proofs.DataBlocks.{one_page, pages_are}
use Rattle.nv_logpage.proofs.RightLogs.{head_starts}
use Rattle.nv_scan.specs.Rows.{AreNumbers}
use Rattle.nv_scan.specs.declared.numbers.Numbers.{Numbers}
use Rattle.nv_scan.specs.declared.piece.Row.{Row}
use Rattle.nv_mounted.specs.Held.{Held, Store, good_in, with_inode}
use Rattle.nv_mounted.specs.Blocks.{IsUnowned, KeepsFree, NoneDoubled, OwnsNew}
use Rattle.nv_mounted.specs.Graph.{graph_in}
use Rattle.nv_mounted.specs.Grows.{AreFree}
use Rattle.nv_mounted.specs.Mounted.{IsFaultless, KeepsRow, ShowsSound}
use Rattle.nv_mounted.proofs.Growing.{free_but, grown_owns}
use Rattle.nv_mounted.proofs.Owning.{other_held, same_held, still_undoubled}
use Rattle.nv_mounted.proofs.Shown.{stands_at}
use Rattle.nv_graph.specs.Step.{IsGoodName}
use Rattle.nv_commit.specs.Extends.{extended}
use Rattle.nv_commit.specs.Pages.{MapsNothing}
use Rattle.nv_commit.specs.Together.{ShowsIdle}
use Rattle.nv_commit.proofs.BlocksOf.{begun_free, begun_owns}
use Rattle.nv_commit.proofs.Called.{created_faultless}
use Rattle.nv_steps.specs.NameEntries.{first_entries, name_entries, new_held, with_named}
use Rattle.nv_steps.specs.NewNames.{IsNewRow, place_named}
use Rattle.nv_steps.specs.Steps.{ShowsRow}
use Rattle.nv_steps.specs.Taken.{TakesEach}
use Rattle.nv_steps.proofs.NameEntries.{first, first_in_range, at_page, name_file, new_maps_nothing, new_names, new_numbers}
use Rattle.nv_steps.proofs.TakenBlocks.{are_free, lists_without}

module _ {R : Region} {l : Layout} {held : Store} {h : Held} {row : Row} {free after : FreeLists} {cpu : ℕ} (kind : Kind) (mode time j : ℕ) (name : List ℕ) (page : ℕ) (fresh : List ℕ)
    (shows : ShowsRow R l held h row free) (unused : held j ≡ None) (directory : h.kind ≡ Directory) (good : IsGoodName l.sup j name) (absent : (graph_in l held).name row.inode name ≡ None)
    (lists : free.sup ≡ l.sup) (taken : TakesEach free cpu (page ∷ fresh) after) (apart : Contains fresh page → ⊥) (count : length fresh ≡ needed (h.tail % 4096) (name_entries Add j name time)) where
  abbrev new : Held
  new = new_held kind mode time page

  abbrev entries : List Entry
  entries = name_entries Add j name time

  abbrev grown_log : Held
  grown_log = extended h entries fresh

  abbrev mid : Store
  mid = with_inode held j (Some new)

  abbrev at : ℕ
  at = place_named fresh h.tail j name time

  abbrev end : ℕ
  end = end_of fresh 0 h.tail entries

  abbrev pages : List ℕ
  pages = take (needed (h.tail % 4096) entries) fresh

  differ : row.inode ≢ j
  differ same = let e : Some h ≡ None = sym shows.holds ∙ ap held same ∙ unused in cc

  there : mid row.inode ≡ Some h
  there = other_held held j row.inode (Some new) differ ∙ shows.holds

  pub all_free : AreFree l held (page ∷ fresh)
  all_free = are_free taken l held shows.lists lists

  page_free : IsUnowned l held page
  page_free = all_free page (Contains-head page fresh)

  none : MapsNothing l new
  none = new_maps_nothing l kind mode time page

  owns_page : OwnsNew l held j (Some new)
  owns_page = begun_owns l held j new page unused refl page_free none

  free_now : (b : ℕ) → IsUnowned l mid b ↔ (IsUnowned l held b × (b ≢ page))
  free_now = begun_free l held j new page unused refl page_free none

  fresh_free : AreFree l mid fresh
  fresh_free b c = (free_now b).1 (all_free b (Contains-tail page fresh b c), λ same. apart (subst (λ (k : ℕ). Contains fresh k) same c))

  was : IsFaultless l held
  was = let sound = shows.sound in sound.faultless

  mid_undoubled : NoneDoubled l mid
  mid_undoubled = still_undoubled l held j (Some new) owns_page was.undoubled

  pages_now : grown_log.pages ≡ h.pages ++ fresh
  pages_now = ap (λ (more : List ℕ). h.pages ++ more) (take_all (needed (h.tail % 4096) entries) fresh (omega (arith, count)))

  -- The free lists are those of the free blocks without the ones that were taken.
  pub made_lists : KeepsFree l (with_named held kind mode time j row.inode h name page fresh) after.pools
  made_lists = lists_without taken l held shows.lists lists (with_named held kind mode time j row.inode h name page fresh) (λ b. (to b, from b)) where
    but : (b : ℕ) → IsUnowned l (with_inode mid row.inode (Some grown_log)) b ↔ (IsUnowned l mid b × (Contains fresh b → ⊥))
    but = free_but l mid row.inode h grown_log there fresh pages_now fresh_free (name_file l h directory Add j name good at time end pages)

    to : (b : ℕ) → IsUnowned l (with_named held kind mode time j row.inode h name page fresh) b → IsUnowned l held b × (Contains (page ∷ fresh) b → ⊥)
    to b now =
        let w = (but b).0 now in
        let v = (free_now b).0 w.0 in
        (v.0, λ c. elim (Contains-cons page fresh b c) [ inl same ↦ v.1 same | inr one ↦ w.1 one ])

    from : (b : ℕ) → IsUnowned l held b × (Contains (page ∷ fresh) b → ⊥) → IsUnowned l (with_named held kind mode time j row.inode h name page fresh) b
    from b w = (but b).1 ((free_now b).1 (w.0, λ same. w.1 (subst (λ (k : ℕ). Contains (page ∷ fresh) k) (sym same) (Contains-head page fresh))), λ c. w.1 (Contains-tail page fresh b c))

  -- ---- nothing is wrong

  module _ {S : Region} (idle : ShowsIdle S l (with_named held kind mode time j row.inode h name page fresh)) where
    once : IsDistinct eqb grown_log.pages
    once =
        let v = stands_at idle.shows row.inode grown_log (same_held mid row.inode (Some grown_log)) in
        let all = pages_are (one_page l.sup h.head (head_starts l.sup h.head grown_log.tail v.is.right)) v.is.reads in
        all.once

    owns_more : OwnsNew l mid row.inode (Some grown_log)
    owns_more = grown_owns l mid row.inode h grown_log there fresh pages_now fresh_free (name_file l h directory Add j name good at time end pages) mid_undoubled once

    -- The region is sound.
    pub made_sound : ShowsSound S l (with_named held kind mode time j row.inode h name page fresh)
    made_sound = record {
      tables = idle.tables;
      idle = idle.idle;
      shows = idle.shows;
      faultless = created_faultless l held was row.inode h shows.holds directory j name good at time end pages new (at_page l kind mode time page) (first mode time) unused refl (first_in_range l.sup kind mode time) absent owns_page owns_more;
    }

  -- ---- the new row

  -- The new row is of the new log.
  pub new_told : {made : Row} → IsNewRow j kind mode time page (end_of [] 0 (4096 * page) (first_entries mode time)) made → KeepsRow l new made
  new_told {made} is = record {
    kind = is.is_of_kind;
    numbers = subst (λ (n : Numbers). AreNumbers time (good_in l new) n) (sym is.numbers) (new_numbers l kind mode time page);
    head = is.head;
    tail = is.tail_is;
    pages = is.pages;
    index = λ p. is.index p ∙ sym (none p);
    names = λ q. is.names q ∙ sym (new_names l kind mode time page q);
  }

-- What is held once two logs have grown whose entries leave the files' blocks: what both inodes own, the free lists, and the
-- rows.
use Rattle.std.proofs.Common.{◌≡◌, ◌≢◌, ◌↔◌, ℕ, ◌%◌, inl, inr, eqb, List, ◌++◌, length, set, slice_get, take_all, ap, sym, ◌∙◌, arith, Some}
use Rattle.std.specs.List.{Contains, IsDistinct}
use Rattle.std.proofs.lemmas.List.Elements.{Contains-append_cases, Contains-append_left, Contains-append_right}
use Rattle.std.proofs.lemmas.Option.{slice_get_within}
use Rattle.nv_region.specs.Region.{Region}
use Rattle.nv_super.specs.Layout.{Layout}
use Rattle.nv_alloc.specs.FreeValue.{FreeLists}
use Rattle.nv_entry.specs.declared.entry.Entry.{Entry}
use Rattle.nv_logpage.specs.Append.{needed}
use Rattle.nv_logpage.proofs.DataBlocks.{one_page, pages_are}
use Rattle.nv_logpage.proofs.RightLogs.{head_starts}
use Rattle.nv_scan.specs.declared.piece.Row.{Row}
use Rattle.nv_mounted.specs.Held.{Held, Store, Shows}
use Rattle.nv_mounted.specs.Blocks.{IsUnowned, KeepsFree, NoneDoubled, OwnsNew}
use Rattle.nv_mounted.specs.Grows.{AreFree, SameFile}
use Rattle.nv_mounted.specs.Mounted.{IsFaultless, KeepsRow, KeepsRows, ShowsSound}
use Rattle.nv_mounted.proofs.Growing.{free_but, grown_owns}
use Rattle.nv_mounted.proofs.Owning.{other_held, same_held, still_undoubled}
use Rattle.nv_mounted.proofs.RowsKept.{rows_follow}
use Rattle.nv_mounted.proofs.Shown.{stands_at}
use Rattle.nv_commit.specs.Extends.{extended, with_log}
use Rattle.nv_commit.specs.Together.{ShowsIdle}
use Rattle.nv_steps.specs.Steps.{ShowsRow}
use Rattle.nv_steps.specs.Taken.{TakesEach}
use Rattle.nv_rows.proofs.Places.{number_at}
use Rattle.nv_steps.proofs.RowsAt.{other_set}
use Rattle.nv_steps.proofs.TakenBlocks.{are_free, lists_without}
use Rattle.nv_steps.proofs.TwoLogs.{cut_each, taken_apart}

-- the pages of a log that is shown are all different
shown_once : (l : Layout) (S : Region) (held : Store) (i : ℕ) (h : Held) → Shows S l held → held i ≡ Some h → IsDistinct eqb h.pages
shown_once l S held i h shows is = let v = stands_at shows i h is in let all = pages_are (one_page l.sup h.head (head_starts l.sup h.head h.tail v.is.right)) v.is.reads in all.once

module _ {R : Region} {l : Layout} {held : Store} {f h : Held} {first second : Row} {free after : FreeLists} {cpu : ℕ} (entries others : List Entry) (fresh more : List ℕ) (shows : ShowsRow R l held f first free) (shows_other : ShowsRow R l held h second free) (differ : first.inode ≢ second.inode)
    (stays : SameFile l f (extended f entries fresh)) (other_stays : SameFile l h (extended h others more)) (lists : free.sup ≡ l.sup) (taken : TakesEach free cpu (fresh ++ more) after)
    (count : length fresh ≡ needed (f.tail % 4096) entries) (more_count : length more ≡ needed (h.tail % 4096) others) where
  abbrev mid : Store
  mid = with_log held first.inode f entries fresh

  abbrev then : Store
  then = with_log mid second.inode h others more

  there : mid second.inode ≡ Some h
  there = other_held held first.inode second.inode (Some (extended f entries fresh)) (λ e. differ (sym e)) ∙ shows_other.holds

  was : IsFaultless l held
  was = let sound = shows.sound in sound.faultless

  pub apart : (b : ℕ) → Contains fresh b → Contains more b → ⊥
  apart = let cut = cut_each fresh more taken in taken_apart cut.1 cut.2

  both_free : AreFree l held (fresh ++ more)
  both_free = are_free taken l held shows.lists lists

  pub fresh_free : AreFree l held fresh
  fresh_free b c = both_free b (Contains-append_left fresh more b c)

  pub more_free : AreFree l held more
  more_free b c = both_free b (Contains-append_right fresh more b c)

  pub pages_now : (extended f entries fresh).pages ≡ f.pages ++ fresh
  pages_now = ap (λ (ps : List ℕ). f.pages ++ ps) (take_all (needed (f.tail % 4096) entries) fresh (omega (arith, count)))

  pub other_pages : (extended h others more).pages ≡ h.pages ++ more
  other_pages = ap (λ (ps : List ℕ). h.pages ++ ps) (take_all (needed (h.tail % 4096) others) more (omega (arith, more_count)))

  but_first : (b : ℕ) → IsUnowned l mid b ↔ (IsUnowned l held b × (Contains fresh b → ⊥))
  but_first = free_but l held first.inode f (extended f entries fresh) shows.holds fresh pages_now fresh_free stays

  still_free : AreFree l mid more
  still_free b c = (but_first b).1 (more_free b c, λ one. apart b one c)

  but_both : (b : ℕ) → IsUnowned l then b ↔ (IsUnowned l mid b × (Contains more b → ⊥))
  but_both = free_but l mid second.inode h (extended h others more) there more other_pages still_free other_stays

  -- The free lists are those of the free blocks without the ones that were taken.
  pub both_lists : KeepsFree l then after.pools
  both_lists = lists_without taken l held shows.lists lists then (λ b. (to b, from b)) where
    to : (b : ℕ) → IsUnowned l then b → IsUnowned l held b × (Contains (fresh ++ more) b → ⊥)
    to b now =
        let w = (but_both b).0 now in
        let v = (but_first b).0 w.0 in
        (v.0, λ c. elim (Contains-append_cases fresh more b c) [ inl one ↦ v.1 one | inr two ↦ w.1 two ])

    from : (b : ℕ) → IsUnowned l held b × (Contains (fresh ++ more) b → ⊥) → IsUnowned l then b
    from b w = (but_both b).1 ((but_first b).1 (w.0, λ c. w.1 (Contains-append_left fresh more b c)), λ c. w.1 (Contains-append_right fresh more b c))

  -- What both own was theirs or free.
  module _ {S : Region} (idle : ShowsIdle S l then) where
    pub own_first : OwnsNew l held first.inode (Some (extended f entries fresh))
    own_first = grown_owns l held first.inode f (extended f entries fresh) shows.holds fresh pages_now fresh_free stays was.undoubled
        (shown_once l S then first.inode (extended f entries fresh) idle.shows (other_held mid second.inode first.inode (Some (extended h others more)) differ ∙ same_held held first.inode (Some (extended f entries fresh))))

    mid_undoubled : NoneDoubled l mid
    mid_undoubled = still_undoubled l held first.inode (Some (extended f entries fresh)) own_first was.undoubled

    pub own_second : OwnsNew l mid second.inode (Some (extended h others more))
    own_second = grown_owns l mid second.inode h (extended h others more) there more other_pages still_free other_stays mid_undoubled (shown_once l S then second.inode (extended h others more) idle.shows (same_held mid second.inode (Some (extended h others more))))

    -- The region is sound where nothing is wrong with what is held.
    pub both_sound : IsFaultless l then → ShowsSound S l then
    both_sound faultless = record {
      tables = idle.tables;
      idle = idle.idle;
      shows = idle.shows;
      faultless = faultless;
    }

  -- The rows are those of what is held once both were replaced.
  pub both_rows : (rows : List Row) → KeepsRows l held rows → (i j : ℕ) → slice_get rows i ≡ Some first → slice_get rows j ≡ Some second → i ≢ j → (now other : Row) → now.inode ≡ first.inode → other.inode ≡ second.inode
      → KeepsRow l (extended f entries fresh) now → KeepsRow l (extended h others more) other → KeepsRows l then (set (set rows i now) j other)
  both_rows rows kept i j at other_at places now other number other_number told other_told =
      let follow = rows_follow l held first.inode (extended f entries fresh) rows kept i (slice_get_within rows i first at) now (number_at rows i first now at) number told in
      let still = other_set rows i j now places ∙ other_at in
      rows_follow l mid second.inode (extended h others more) (set rows i now) follow j (slice_get_within (set rows i now) j second still) other (number_at (set rows i now) j second other still) other_number other_told

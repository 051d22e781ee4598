-- Two logs that grow together: what is shown once both tails have moved, and what a stop leaves.
use Rattle.std.proofs.Common.{◌≡◌, ℕ, suc, ◌+◌, ◌*◌, ◌/◌, ◌%◌, ◌<◌, ◌≤◌, inl, inr, List, ◌∷◌, ◌++◌, length, get_or, take, refl, sym, ◌∙◌, subst, arith, Some}
use Rattle.std.specs.List.{All, Contains}
use Rattle.std.proofs.lemmas.List.{get_or_default}
use Rattle.std.proofs.lemmas.List.Elements.{All-take, Contains-append_cases}
use Rattle.nv_region.specs.Region.{Region, size, put}
use Rattle.nv_region.specs.Stops.{Choices, IsMixed, LeavesOnly, NothingPending}
use Rattle.nv_region.specs.Stored.{SameOutside, Stored, StoresOnly}
use Rattle.nv_region.proofs.Stops.{mixed_left, mixed_same}
use Rattle.nv_region.proofs.Wordwise.{mixed_more, mixed_word, put_stored}
use Rattle.nv_super.specs.declared.owners.Owner.TheVariants as owners
use Rattle.nv_super.specs.Layout.{Layout}
use Rattle.nv_inode.specs.Chains.{IsLaid, layout_of}
use Rattle.nv_inode.specs.Permitted.{is_permitted_by}
use Rattle.nv_journal.specs.Undo.{dequeue, enqueue, journal, undone}
use Rattle.nv_journal.specs.Pending.{BeforeOrAfter, CanUndo, IsEmpty}
use Rattle.nv_journal.specs.Recorded.{Two}
use Rattle.nv_journal.specs.Faults.{NoJournalFault}
use Rattle.nv_journal.proofs.Faultless.{idle_faultless}
use Rattle.nv_inode.proofs.LayoutWords.{lies_behind}
use Rattle.nv_logpage.specs.Append.{AppendWords, appended, needed}
use Rattle.nv_logpage.proofs.Local.{ReadsOn-same}
use Rattle.nv_outcome.proofs.SuperOf.{blocks_of_super, layout_of_super}
use Rattle.nv_mounted.specs.Held.{Held, Store, Shows, with_inode}
use Rattle.nv_mounted.specs.Slots.{PagesClear, SlotsClear}
use Rattle.nv_mounted.specs.Loose.{Loose}
use Rattle.nv_mounted.specs.Front.{SameFront}
use Rattle.nv_mounted.specs.Grows.{grown}
use Rattle.nv_mounted.specs.Mounted.{HasTables, ShowsSound}
use Rattle.nv_mounted.specs.Appended.{HasBehind}
use Rattle.nv_mounted.proofs.Appending.{tail_follows}
use Rattle.nv_mounted.proofs.BytesKept.{mixed_size}
use Rattle.nv_mounted.proofs.Commits.{log_stays, pages_clear, pages_grown, stored_outside}
use Rattle.nv_mounted.proofs.Fronts.{front_idle, loose_front, loose_sound, slot_front, tables_laid}
use Rattle.nv_mounted.proofs.Idle.{idle_undone}
use Rattle.nv_mounted.proofs.Kept.{head_whole, page_owner, same_inode, tail_there}
use Rattle.nv_mounted.proofs.Owning.{other_held}
use Rattle.nv_mounted.proofs.Shown.{stands_at}
use Rattle.nv_commit.specs.declared.together.Extension.{Extension}
use Rattle.nv_commit.specs.Extends.{CanExtend, extended, with_log}
use Rattle.nv_commit.specs.Together.{AppendsBoth, BeforeOrBoth, BeginFrom, BothWords, CanCommit, CanExtendTwo, ShowsIdle, UndoneShows, with_logs}
use Rattle.nv_commit.proofs.Extends.{ends, front_more, loose_there, slots, sound_before, stands_behind}
use Rattle.nv_commit.proofs.Permitted.{tail_permitted}
use Rattle.nv_commit.proofs.TwoWords.{ByJournal, IsInSlot, no_fault, words_idle, words_undone}

-- ---- the journal in front of the pages

pub low_words : (low tail : ℕ) (fresh : List ℕ) → BeginFrom (tail / 4096 ∷ fresh) low → (at : ℕ) → at % 8 ≡ 0 → at < low → (v : ℕ) → AppendWords tail fresh (at / 8) v → ⊥
low_words low tail fresh from at whole less v (inl w) = let first : low ≤ 4096 * (tail / 4096) = from 0 (omega arith) in let page = w.0 in omega (arith, first, page, whole, less)
low_words low tail fresh from at whole less v (inr w) = let one : low ≤ 4096 * get_or fresh w.0 0 = from (suc w.0) (omega (arith, w.1)) in let page = w.2 in omega (arith, one, page, whole, less)

-- a journal behind which all pages stand stays empty
pub still_empty : {R S : Region} {cpu : ℕ} {x y : Extension} → CanCommit R cpu x → CanCommit R cpu y → IsMixed R (BothWords x y) S → IsEmpty R cpu → IsEmpty S cpu
still_empty {R} {S} {cpu} {x} {y} one two mixed empty = (first ∙ empty.0 ∙ sym second, omega (arith, second, empty.1)) where
  away : (at : ℕ) → at % 8 ≡ 0 → at < journal cpu + 4096 → (v : ℕ) → BothWords x y (at / 8) v → ⊥
  away at whole less v (inl w) = low_words (journal cpu + 4096) x.tail x.fresh.now one.pages_behind at whole less v w
  away at whole less v (inr w) = low_words (journal cpu + 4096) y.tail y.fresh.now two.pages_behind at whole less v w

  first : dequeue S cpu ≡ dequeue R cpu
  first = mixed_word R S (BothWords x y) (journal cpu) (omega arith) mixed (away (journal cpu) (omega arith) (omega arith))

  second : enqueue S cpu ≡ enqueue R cpu
  second = mixed_word R S (BothWords x y) (journal cpu + 8) (omega arith) mixed (away (journal cpu + 8) (omega arith) (omega arith))

pub both_mixed : {R S : Region} {x y : Extension} {new last : ℕ} → AppendsBoth R S x y new last → IsMixed R (BothWords x y) S
both_mixed {R} {S} {x} {y} done =
    mixed_more (BothWords x y) (AppendWords y.tail y.fresh.now) R done.between S (λ k v w. inr w)
    (mixed_more (BothWords x y) (AppendWords x.tail x.fresh.now) R R done.between (λ k v w. inl w) (mixed_same R (BothWords x y)) done.first.wrote) done.second.wrote

-- ---- a region that is its own undo

pub sound_undone : {Q : Region} {l : Layout} {held : Store} → ShowsSound Q l held → UndoneShows l held Q
sound_undone {Q} {l} {held} sound =
    let own : Q ≡ undone l.sup Q = sym (idle_undone l.sup Q (layout_of_super Q l.sup sound.sup) sound.idle) in
    record { tables = subst (λ (U : Region). HasTables U l) own sound.tables; shows = subst (λ (U : Region). Shows U l held) own sound.shows; journals = idle_faultless (is_permitted_by (layout_of l.sup Q)) l.sup.cpus Q sound.idle }

-- ---- two logs

module _ {R : Region} {l : Layout} {held : Store} {cpu i : ℕ} {h : Held} {x : Extension} {j : ℕ} {g : Held} {y : Extension} (can : CanExtendTwo R l held cpu i h x j g y) where
  pub all_loose : (left : Region) → IsMixed R (BothWords x y) left → IsMixed R (Loose l held) left
  all_loose left mixed = mixed_more (Loose l held) (BothWords x y) R R left (λ k v w. elim w [ inl a ↦ loose_there can.first k v a | inr b ↦ loose_there can.second k v b ]) (mixed_same R (Loose l held)) mixed

  -- before the tails are moved
  pub both_before : (left : Region) → IsMixed R (BothWords x y) left → ShowsSound left l held
  both_before left mixed = loose_sound R left l held can.first.sound (all_loose left mixed)

  pub both_left : (now : Region) (old new : Choices) → StoresOnly (BothWords x y) R now old new → NothingPending R old → LeavesOnly now new (BeforeOrBoth l held i h x j g y)
  both_left now old new wrote settled left may = inl (sound_undone (both_before left (mixed_left R now (BothWords x y) old new wrote.mixed.as_long wrote.mixed.same_rest settled wrote.adds left may)))

  -- no page of the first log, new or old, is written to with the second
  taken_there : (b : ℕ) → Contains (take (needed (h.tail % 4096) x.entries.now) x.fresh.now) b → Contains x.fresh.now b
  taken_there b c =
      let whole : All (Contains x.fresh.now) x.fresh.now = λ k d below. (k, below, get_or_default x.fresh.now k (get_or x.fresh.now k d) d below) in
      subst (Contains x.fresh.now) c.2 (All-take (Contains x.fresh.now) (needed (h.tail % 4096) x.entries.now) x.fresh.now whole c.0 b c.1)

  tail_page : Contains g.pages (g.tail / 4096)
  tail_page = let v = stands_at can.second.sound.shows j g can.second.holds in tail_there v.is.right v.is.reads

  not_both : (b : ℕ) → Contains h.pages b → Contains g.pages b → ⊥
  not_both b one two =
      let mine = page_owner l held i b h can.first.holds one in
      let theirs = page_owner l held j b g can.second.holds two in
      can.differ (same_inode i j mine.0 theirs.0 (can.first.sound.faultless.undoubled b (owners.Log i mine.0) (owners.Log j theirs.0) mine.1 theirs.1))

  in_tail : (b : ℕ) → Contains (h.pages ++ take (needed (h.tail % 4096) x.entries.now) x.fresh.now) b → Contains g.pages b → ⊥
  in_tail b c two = elim (Contains-append_cases h.pages (take (needed (h.tail % 4096) x.entries.now) x.fresh.now) b c) [
    | inl old ↦ not_both b old two
    | inr one ↦ (let theirs = page_owner l held j b g can.second.holds two in (can.first.free b (taken_there b one)).unowned (owners.Log j theirs.0) theirs.1)
  ]

  in_fresh : (b : ℕ) → Contains (h.pages ++ take (needed (h.tail % 4096) x.entries.now) x.fresh.now) b → Contains y.fresh.now b → ⊥
  in_fresh b c two = elim (Contains-append_cases h.pages (take (needed (h.tail % 4096) x.entries.now) x.fresh.now) b c) [
    | inl old ↦ (let mine = page_owner l held i b h can.first.holds old in (can.second.free b two).unowned (owners.Log i mine.0) mine.1)
    | inr one ↦ can.apart b (taken_there b one) two
  ]

  pub apart_words : (b : ℕ) → Contains (h.pages ++ take (needed (h.tail % 4096) x.entries.now) x.fresh.now) b → (a : ℕ) → a % 8 ≡ 0 → a / 4096 ≡ b → (v : ℕ) → AppendWords y.tail y.fresh.now (a / 8) v → ⊥
  apart_words b c a whole page v (inl w) =
      let here = w.0 in
      let same : g.tail / 4096 ≡ b = omega (arith, here, whole, page, can.second.tail_is) in
      in_tail b c (subst (Contains g.pages) same tail_page)
  apart_words b c a whole page v (inr w) =
      let here = w.2 in
      let same : get_or y.fresh.now w.0 0 ≡ b = omega (arith, here, whole, page) in
      in_fresh b c (subst (Contains y.fresh.now) same (w.0, w.1, get_or_default y.fresh.now w.0 (get_or y.fresh.now w.0 0) 0 w.1))

  module _ {S : Region} {new last : ℕ} (done : AppendsBoth R S x y new last) where
    pub clear : SlotsClear l held
    clear = slots can.first

    between : CanExtend done.between l held j g y.slot y.tail y.entries.now y.fresh.now
    between = record {
      sound = sound_before can.first done.between done.first.wrote;
      at = can.second.at;
      holds = can.second.holds;
      tail_is = can.second.tail_is;
      free = can.second.free;
      differ = can.second.differ;
      enough = can.second.enough;
      given = can.second.given;
      some = can.second.some;
    }

    first_was : HasBehind done.between l held h new (appended x.fresh.now 0 h.tail x.entries.now) (take (needed (h.tail % 4096) x.entries.now) x.fresh.now)
    first_was = stands_behind can.first done.between new done.first_end done.first

    pub second_there : HasBehind S l held g last (appended y.fresh.now 0 g.tail y.entries.now) (take (needed (g.tail % 4096) y.entries.now) y.fresh.now)
    second_there = stands_behind between S last done.second_end done.second

    first_there : HasBehind S l held h new (appended x.fresh.now 0 h.tail x.entries.now) (take (needed (h.tail % 4096) x.entries.now) x.fresh.now)
    first_there =
        let start : h.head % 4096 ≡ 0 = head_whole l.sup h.head new first_was.right in
        record {
          shows = second_there.shows;
          right = first_was.right;
          reads = ReadsOn-same S
              (λ b c a whole page. mixed_word done.between S (AppendWords y.tail y.fresh.now) a whole done.second.wrote (apart_words b c a whole page))
              (0, omega arith, refl) (omega (arith, start)) (omega (arith, start)) first_was.reads;
          clear = first_was.clear;
        }

    mixed : IsMixed R (BothWords x y) S
    mixed = both_mixed done

    pub same_size : size S ≡ size R
    same_size = mixed_size mixed

    pub front : SameFront l R S
    front = loose_front l held R S clear.stand can.first.sound.faultless.undoubled can.first.sound.shows (all_loose S mixed)

    pub laid : IsLaid l
    laid = tables_laid can.first.sound.tables

    pub can_undo : length R.rest < 8 → CanUndo (is_permitted_by l) l.sup.cpus S cpu (x.slot + 24) (y.slot + 24)
    can_undo short = record {
      rule = lies_behind l laid;
      journals = (let blocks = blocks_of_super R l.sup can.first.sound.sup in let long : size R ≡ 8 * length R.words + length R.rest = refl in omega (arith, laid.layout.areas.room, blocks, long, short, mixed.as_long));
      inside = can.journals;
      permits_first = tail_permitted l i x.slot laid can.first.at;
      permits_second = tail_permitted l j y.slot laid can.second.at;
      quiet = λ c below sound. (front_idle R S l front can.first.sound.idle c below).1;
    }

    pub faultless : NoJournalFault (is_permitted_by l) l.sup.cpus S
    faultless = no_fault can.first.sound front

    -- both tails moved, by puts of these numbers
    module _ (first_inside : x.slot + 32 ≤ size R) (second_inside : y.slot + 32 ≤ size R) (short : length R.rest < 8) where
      abbrev moved : Region
      moved = put S (x.slot + 24) new

      abbrev both : Region
      both = put moved (y.slot + 24) last

      pub short_now : length S.rest < 8
      short_now = subst (λ (r : List ℕ). length r < 8) (sym mixed.same_rest) short

      pub first_stored : Stored S (x.slot + 24) new moved
      first_stored = put_stored S (x.slot + 24) new (omega (arith, clear.whole i x.slot can.first.at)) (omega (arith, first_inside, same_size)) short_now

      pub second_stored : Stored moved (y.slot + 24) last both
      second_stored = put_stored moved (y.slot + 24) last (omega (arith, clear.whole j y.slot can.second.at)) (omega (arith, second_inside, same_size, first_stored.len)) short_now

      pub first_outside : SameOutside S x.slot 128 moved
      first_outside = stored_outside S moved x.slot 24 new (clear.whole i x.slot can.first.at) (omega arith) (omega arith) first_stored

      pub second_outside : SameOutside moved y.slot 128 both
      second_outside = stored_outside moved both y.slot 24 last (clear.whole j y.slot can.second.at) (omega arith) (omega arith) second_stored

      abbrev first_held : Store
      first_held = with_log held i h x.entries.now x.fresh.now

      pub first_shows : Shows moved l first_held
      first_shows =
          subst (λ (n : ℕ). Shows moved l (with_inode held i (Some (grown h n (appended x.fresh.now 0 h.tail x.entries.now) (take (needed (h.tail % 4096) x.entries.now) x.fresh.now))))) (ends can.first done.between new done.first_end done.first)
          (tail_follows l held S moved i x.slot new h (appended x.fresh.now 0 h.tail x.entries.now) (take (needed (h.tail % 4096) x.entries.now) x.fresh.now) (pages_clear clear) can.first.at can.first.holds first_there first_stored)

      -- no page of a log holds a slot then
      pub first_pages : PagesClear l first_held
      first_pages = pages_grown l held i (extended h x.entries.now x.fresh.now) (pages_clear clear) first_there.clear

      pub both_pages : PagesClear l (with_logs held i h x j g y)
      both_pages = pages_grown l first_held j (extended g y.entries.now y.fresh.now) first_pages second_there.clear

      second_held : first_held j ≡ Some g
      second_held = other_held held i j (Some (extended h x.entries.now x.fresh.now)) (λ e. can.differ (sym e)) ∙ can.second.holds

      second_then : HasBehind moved l first_held g last (appended y.fresh.now 0 g.tail y.entries.now) (take (needed (g.tail % 4096) y.entries.now) y.fresh.now)
      second_then = record {
        shows = first_shows;
        right = second_there.right;
        reads = log_stays l held S moved (pages_clear clear) i x.slot can.first.at first_outside second_there.shows g.head last
            (g.entries ++ appended y.fresh.now 0 g.tail y.entries.now) (g.pages ++ take (needed (g.tail % 4096) y.entries.now) y.fresh.now) second_there.right second_there.clear second_there.reads;
        clear = second_there.clear;
      }

      pub both_show : Shows both l (with_logs held i h x j g y)
      both_show =
          subst (λ (n : ℕ). Shows both l (with_inode first_held j (Some (grown g n (appended y.fresh.now 0 g.tail y.entries.now) (take (needed (g.tail % 4096) y.entries.now) y.fresh.now))))) (ends between S last done.second_end done.second)
          (tail_follows l first_held moved both j y.slot last g (appended y.fresh.now 0 g.tail y.entries.now) (take (needed (g.tail % 4096) y.entries.now) y.fresh.now)
          first_pages can.second.at second_held second_then second_stored)

      pub both_front : SameFront l R both
      both_front = front_more front (front_more (slot_front l S moved i x.slot clear.stand can.first.at first_outside) (slot_front l moved both j y.slot clear.stand can.second.at second_outside))

      -- after the change of both words, and while they change
      abbrev these : Choices
      these = Two (x.slot + 24) new (y.slot + 24) last

      inside : (k v : ℕ) → these k v → IsInSlot l k
      inside k v (inl w) = let number = w.0 in let whole = clear.whole i x.slot can.first.at in (i, x.slot, can.first.at, omega (arith, number, whole), omega (arith, number, whole))
      inside k v (inr w) = let number = w.0 in let whole = clear.whole j y.slot can.second.at in (j, y.slot, can.second.at, omega (arith, number, whole), omega (arith, number, whole))

      pub both_idle : (N : Region) → SameOutside both (journal cpu) 4096 N → IsEmpty N cpu → IsMixed S (ByJournal cpu these) N → ShowsIdle N l (with_logs held i h x j g y)
      both_idle N outside empty = words_idle these inside can.first.sound clear.stand can.journals front second_there.shows both_front both_show N outside empty

      pub undone_either : (left : Region) → BeforeOrAfter (is_permitted_by l) l.sup.cpus S (x.slot + 24) new (y.slot + 24) last left → NoJournalFault (is_permitted_by l) l.sup.cpus left → IsMixed S (ByJournal cpu these) left → BeforeOrBoth l held i h x j g y left
      undone_either left either none = words_undone these inside can.first.sound clear.stand can.journals front second_there.shows both_front both_show left either none

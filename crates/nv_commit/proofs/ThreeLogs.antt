-- Three logs that grow together: what is shown once all tails have moved, and what a stop leaves.
use Rattle.std.proofs.Common.{◌≡◌, ℕ, ◌+◌, ◌/◌, ◌%◌, ◌<◌, ◌≤◌, inl, inr, List, [], ◌∷◌, ◌++◌, length, take, IsTrue, refl, sym, ◌∙◌, subst, arith, Some}
use Rattle.std.proofs.lemmas.List.Elements.{All-cons, All-nil}
use Rattle.nv_region.specs.Region.{Region, put, size}
use Rattle.nv_region.specs.Stops.{Choices, IsMixed, LeavesOnly, NothingPending}
use Rattle.nv_region.specs.Stored.{SameOutside, Stored, StoresOnly}
use Rattle.nv_region.proofs.Stops.{mixed_left, mixed_same}
use Rattle.nv_region.proofs.Wordwise.{mixed_more, mixed_word, put_stored}
use Rattle.nv_super.specs.Layout.{Layout}
use Rattle.nv_inode.specs.Permitted.{is_permitted_by}
use Rattle.nv_journal.specs.Undo.{dequeue, enqueue, journal}
use Rattle.nv_journal.specs.Pending.{IsEmpty}
use Rattle.nv_journal.specs.Faults.{NoJournalFault}
use Rattle.nv_journal.specs.Several.{BeforeOrAll, CanUndoAll, Values}
use Rattle.nv_logpage.specs.Append.{CanAppend, appended, needed}
use Rattle.nv_logpage.specs.declared.found.Placed.{Placed}
use Rattle.nv_logpage.proofs.Local.{ReadsOn-same}
use Rattle.nv_mounted.specs.Held.{Held, Store, Shows, with_inode}
use Rattle.nv_mounted.specs.Loose.{Loose}
use Rattle.nv_mounted.specs.Front.{SameFront}
use Rattle.nv_mounted.specs.Grows.{grown}
use Rattle.nv_mounted.specs.Mounted.{ShowsSound}
use Rattle.nv_mounted.specs.Appended.{HasBehind}
use Rattle.nv_mounted.proofs.Appending.{tail_follows}
use Rattle.nv_mounted.proofs.BytesKept.{mixed_size}
use Rattle.nv_mounted.proofs.Commits.{log_stays, pages_clear, stored_outside}
use Rattle.nv_mounted.proofs.Fronts.{loose_front, loose_sound, slot_front}
use Rattle.nv_mounted.proofs.Kept.{head_whole}
use Rattle.nv_mounted.proofs.Owning.{other_held}
use Rattle.nv_commit.specs.declared.together.Extension.{Extension}
use Rattle.nv_commit.specs.Extends.{CanExtend, extended, with_log}
use Rattle.nv_commit.specs.Together.{BothWords, CanCommit, CanExtendTwo, ShowsIdle, with_logs}
use Rattle.nv_commit.specs.ThreeLogs.{AppendsThree, BeforeOrThree, CanExtendThree, ThreeWords, with_three}
use Rattle.nv_commit.proofs.BothTails.{apart_words, both_front, both_mixed, both_pages, both_show, can_undo, clear, faultless, first_outside, first_pages, first_shows, first_stored, front, laid, low_words, same_size, second_outside, second_stored, second_there, short_now, sound_undone}
use Rattle.nv_commit.proofs.Extends.{all_loose, ends, front_more, loose_there, slots, sound_before, stands_behind}
use Rattle.nv_commit.proofs.Permitted.{tail_permitted}
use Rattle.nv_commit.proofs.TwoWords.{ByJournal, IsInSlot, words_idle, words_undone}

-- ---- where the region is as long

pub can_append : {R S : Region} (x : Extension) → size S ≡ size R → CanAppend R x.tail x.entries.now x.fresh.now → CanAppend S x.tail x.entries.now x.fresh.now
can_append x same can = record { whole = can.whole; offset = can.offset; given = can.given; enough = can.enough; differ = can.differ; inside = λ j below. (let inside = can.inside j below in omega (arith, inside, same)) }

-- a journal behind which all pages stand stays empty
pub words_empty : {R S : Region} {cpu : ℕ} {x y z : Extension} → CanCommit R cpu x → CanCommit R cpu y → CanCommit R cpu z → IsMixed R (ThreeWords x y z) S → IsEmpty R cpu → IsEmpty S cpu
words_empty {R} {S} {cpu} {x} {y} {z} one two three mixed empty = (first ∙ empty.0 ∙ sym second, omega (arith, second, empty.1)) where
  away : (at : ℕ) → at % 8 ≡ 0 → at < journal cpu + 4096 → (v : ℕ) → ThreeWords x y z (at / 8) v → ⊥
  away at whole less v (inl w) = low_words (journal cpu + 4096) z.tail z.fresh.now three.pages_behind at whole less v w
  away at whole less v (inr (inl w)) = low_words (journal cpu + 4096) x.tail x.fresh.now one.pages_behind at whole less v w
  away at whole less v (inr (inr w)) = low_words (journal cpu + 4096) y.tail y.fresh.now two.pages_behind at whole less v w

  first : dequeue S cpu ≡ dequeue R cpu
  first = mixed_word R S (ThreeWords x y z) (journal cpu) (omega arith) mixed (away (journal cpu) (omega arith) (omega arith))

  second : enqueue S cpu ≡ enqueue R cpu
  second = mixed_word R S (ThreeWords x y z) (journal cpu + 8) (omega arith) mixed (away (journal cpu + 8) (omega arith) (omega arith))

module _ {R : Region} {l : Layout} {held : Store} {cpu i : ℕ} {h : Held} {x : Extension} {j : ℕ} {g : Held} {y : Extension} {k : ℕ} {f : Held} {z : Extension} (can : CanExtendThree R l held cpu i h x j g y k f z) where
  three_loose : (left : Region) → IsMixed R (ThreeWords x y z) left → IsMixed R (Loose l held) left
  three_loose left mixed =
      mixed_more (Loose l held) (ThreeWords x y z) R R left
      (λ n v w. elim w [ inl c ↦ loose_there can.third n v c | inr both ↦ elim both [ inl a ↦ loose_there can.two.first n v a | inr b ↦ loose_there can.two.second n v b ] ]) (mixed_same R (Loose l held)) mixed

  -- before the tails are moved
  pub three_before : (left : Region) → IsMixed R (ThreeWords x y z) left → ShowsSound left l held
  three_before left mixed = loose_sound R left l held can.third.sound (three_loose left mixed)

  pub three_left : (now : Region) (old new : Choices) → StoresOnly (ThreeWords x y z) R now old new → NothingPending R old → LeavesOnly now new (BeforeOrThree l held i h x j g y k f z)
  three_left now old new wrote settled left may = inl (sound_undone (three_before left (mixed_left R now (ThreeWords x y z) old new wrote.mixed.as_long wrote.mixed.same_rest settled wrote.adds left may)))

  -- the third log beside each of the others
  beside_first : CanExtendTwo R l held cpu k f z i h x
  beside_first = record { journals = can.two.journals; first = can.third; second = can.two.first; differ = λ e. can.first_differs (sym e); apart = λ b c d. can.first_apart b d c }

  beside_second : CanExtendTwo R l held cpu k f z j g y
  beside_second = record { journals = can.two.journals; first = can.third; second = can.two.second; differ = λ e. can.second_differs (sym e); apart = λ b c d. can.second_apart b d c }

  module _ {S : Region} {new last end : ℕ} (done : AppendsThree R S x y z new last end) where
    abbrev Q : Region
    Q = done.before

    in_q : (n : ℕ) (o : Held) (e : Extension) → CanExtend R l held n o e.slot e.tail e.entries.now e.fresh.now → CanExtend Q l held n o e.slot e.tail e.entries.now e.fresh.now
    in_q n o e was = record {
      sound = sound_before can.third Q done.own.wrote;
      at = was.at;
      holds = was.holds;
      tail_is = was.tail_is;
      free = was.free;
      differ = was.differ;
      enough = was.enough;
      given = was.given;
      some = was.some;
    }

    two : CanExtendTwo Q l held cpu i h x j g y
    two = record { journals = can.two.journals; first = in_q i h x can.two.first; second = in_q j g y can.two.second; differ = can.two.differ; apart = can.two.apart }

    abbrev more : List Placed
    more = appended z.fresh.now 0 f.tail z.entries.now

    abbrev pages : List ℕ
    pages = take (needed (f.tail % 4096) z.entries.now) z.fresh.now

    third_was : HasBehind Q l held f end more pages
    third_was = stands_behind can.third Q end done.third_end done.own

    third_there : HasBehind S l held f end more pages
    third_there =
        let start : f.head % 4096 ≡ 0 = head_whole l.sup f.head end third_was.right in
        record {
          shows = (second_there two done.both).shows;
          right = third_was.right;
          reads = ReadsOn-same S
              (λ b c a whole page. mixed_word Q S (BothWords x y) a whole (both_mixed done.both) (λ v w. elim w [ inl one ↦ apart_words beside_first b c a whole page v one | inr other ↦ apart_words beside_second b c a whole page v other ]))
              (0, omega arith, refl) (omega (arith, start)) (omega (arith, start)) third_was.reads;
          clear = third_was.clear;
        }

    q_front : SameFront l R Q
    q_front = loose_front l held R Q (slots can.third).stand can.third.sound.faultless.undoubled can.third.sound.shows (all_loose can.third Q done.own.wrote)

    s_front : SameFront l R S
    s_front = front_more q_front (front two done.both)

    pub three_faultless : NoJournalFault (is_permitted_by l) l.sup.cpus S
    three_faultless = faultless two done.both

    q_size : size Q ≡ size R
    q_size = mixed_size done.own.wrote

    module _ (first_inside : x.slot + 32 ≤ size R) (second_inside : y.slot + 32 ≤ size R) (third_inside : z.slot + 32 ≤ size R) (short : length R.rest < 8) where
      abbrev moved : Region
      moved = put S (x.slot + 24) new

      abbrev both : Region
      both = put moved (y.slot + 24) last

      abbrev all : Region
      all = put both (z.slot + 24) end

      abbrev changes : List (ℕ × ℕ)
      changes = (x.slot + 24, new) ∷ (y.slot + 24, last) ∷ (z.slot + 24, end) ∷ []

      first_in : x.slot + 32 ≤ size Q
      first_in = omega (arith, first_inside, q_size)

      second_in : y.slot + 32 ≤ size Q
      second_in = omega (arith, second_inside, q_size)

      q_short : length Q.rest < 8
      q_short = subst (λ (r : List ℕ). length r < 8) (sym done.own.wrote.same_rest) short

      IsPermittedHere : ℕ × ℕ → Type 0
      IsPermittedHere c = IsTrue (is_permitted_by l c.0)

      pub can_undo_three : CanUndoAll (is_permitted_by l) l.sup.cpus S cpu changes
      unfolding IsPermittedHere
      can_undo_three =
          let can_two = can_undo two done.both q_short in
          record {
            rule = can_two.rule;
            journals = can_two.journals;
            inside = can_two.inside;
            permits_all = All-cons IsPermittedHere (x.slot + 24, new) ((y.slot + 24, last) ∷ (z.slot + 24, end) ∷ []) can_two.permits_first (All-cons IsPermittedHere (y.slot + 24, last) ((z.slot + 24, end) ∷ []) can_two.permits_second
                (All-cons IsPermittedHere (z.slot + 24, end) [] (tail_permitted l k z.slot (laid two done.both) can.third.at) (All-nil IsPermittedHere)));
            quiet = can_two.quiet;
          }

      two_show : Shows both l (with_logs held i h x j g y)
      two_show = both_show two done.both first_in second_in q_short

      one_shows : Shows moved l (with_log held i h x.entries.now x.fresh.now)
      one_shows = first_shows two done.both first_in second_in q_short

      third_held : with_logs held i h x j g y k ≡ Some f
      third_held =
          other_held (with_log held i h x.entries.now x.fresh.now) j k (Some (extended g y.entries.now y.fresh.now)) (λ e. can.second_differs (sym e))
          ∙ other_held held i k (Some (extended h x.entries.now x.fresh.now)) (λ e. can.first_differs (sym e)) ∙ can.third.holds

      third_then : HasBehind both l (with_logs held i h x j g y) f end more pages
      third_then = record {
        shows = two_show;
        right = third_there.right;
        reads = log_stays l (with_log held i h x.entries.now x.fresh.now) moved both (first_pages two done.both first_in second_in q_short) j y.slot can.two.second.at
            (second_outside two done.both first_in second_in q_short) one_shows f.head end (f.entries ++ more) (f.pages ++ pages) third_there.right third_there.clear
            (log_stays l held S moved (pages_clear (clear two done.both)) i x.slot can.two.first.at (first_outside two done.both first_in second_in q_short) third_there.shows f.head end (f.entries ++ more) (f.pages ++ pages) third_there.right third_there.clear third_there.reads);
        clear = third_there.clear;
      }

      third_stored : Stored both (z.slot + 24) end all
      third_stored =
          put_stored both (z.slot + 24) end (omega (arith, (clear two done.both).whole k z.slot can.third.at))
          (omega (arith, third_inside, q_size, same_size two done.both, (first_stored two done.both first_in second_in q_short).len, (second_stored two done.both first_in second_in q_short).len))
          (short_now two done.both first_in second_in q_short)

      third_outside : SameOutside both z.slot 128 all
      third_outside = stored_outside both all z.slot 24 end ((clear two done.both).whole k z.slot can.third.at) (omega arith) (omega arith) third_stored

      all_show : Shows all l (with_three held i h x j g y k f z)
      all_show =
          subst (λ (n : ℕ). Shows all l (with_inode (with_logs held i h x j g y) k (Some (grown f n more pages)))) (ends can.third Q end done.third_end done.own)
          (tail_follows l (with_logs held i h x j g y) both all k z.slot end f more pages
          (both_pages two done.both first_in second_in q_short) can.third.at third_held third_then third_stored)

      all_front : SameFront l R all
      all_front = front_more q_front (front_more (both_front two done.both first_in second_in q_short) (slot_front l both all k z.slot (clear two done.both).stand can.third.at third_outside))

      -- after the change of all three words, and while they change
      abbrev these : Choices
      these = Values changes

      inside : (n v : ℕ) → these n v → IsInSlot l n
      inside n v (inl w) = let number = w.0 in let whole = (clear two done.both).whole i x.slot can.two.first.at in (i, x.slot, can.two.first.at, omega (arith, number, whole), omega (arith, number, whole))
      inside n v (inr (inl w)) = let number = w.0 in let whole = (clear two done.both).whole j y.slot can.two.second.at in (j, y.slot, can.two.second.at, omega (arith, number, whole), omega (arith, number, whole))
      inside n v (inr (inr (inl w))) = let number = w.0 in let whole = (clear two done.both).whole k z.slot can.third.at in (k, z.slot, can.third.at, omega (arith, number, whole), omega (arith, number, whole))
      inside n v (inr (inr (inr w))) = absurd w

      pub three_idle : (N : Region) → SameOutside all (journal cpu) 4096 N → IsEmpty N cpu → IsMixed S (ByJournal cpu these) N → ShowsIdle N l (with_three held i h x j g y k f z)
      three_idle N outside empty = words_idle these inside can.third.sound (clear two done.both).stand can.two.journals s_front third_there.shows all_front all_show N outside empty

      pub three_undone : (left : Region) → BeforeOrAll (is_permitted_by l) l.sup.cpus S changes left → NoJournalFault (is_permitted_by l) l.sup.cpus left → IsMixed S (ByJournal cpu these) left → BeforeOrThree l held i h x j g y k f z left
      three_undone left either none = words_undone these inside can.third.sound (clear two done.both).stand can.two.journals s_front third_there.shows all_front all_show left either none

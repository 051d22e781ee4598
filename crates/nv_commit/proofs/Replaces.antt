-- An inode that goes together with the entries that give its name to another.
use Rattle.std.proofs.Common.{◌≡◌, ℕ, ◌+◌, ◌<◌, ◌≤◌, inl, inr, List, [], ◌∷◌, length, IsTrue, refl, sym, subst, arith}
use Rattle.std.proofs.lemmas.List.Elements.{All-cons, All-nil}
use Rattle.nv_region.specs.Region.{Region, put, size, word}
use Rattle.nv_region.specs.Stops.{Choices, IsMixed, LeavesOnly, NothingPending}
use Rattle.nv_region.specs.Stored.{SameOutside, Stored, StoresOnly}
use Rattle.nv_region.proofs.Stops.{mixed_left}
use Rattle.nv_region.proofs.Wordwise.{mixed_word, put_stored}
use Rattle.nv_super.specs.Layout.{Layout}
use Rattle.nv_inode.specs.Permitted.{is_permitted_by}
use Rattle.nv_journal.specs.Undo.{journal}
use Rattle.nv_journal.specs.Pending.{IsEmpty}
use Rattle.nv_journal.specs.Faults.{NoJournalFault}
use Rattle.nv_journal.specs.Several.{BeforeOrAll, CanUndoAll, Values}
use Rattle.nv_mounted.specs.Held.{Held, Store, Shows}
use Rattle.nv_mounted.specs.Front.{SameFront}
use Rattle.nv_mounted.proofs.Commits.{removed, stored_outside}
use Rattle.nv_mounted.proofs.Fronts.{slot_front}
use Rattle.nv_commit.specs.declared.together.Extension.{Extension}
use Rattle.nv_commit.specs.Together.{AppendsBoth, BothWords, ShowsIdle, with_logs}
use Rattle.nv_commit.specs.Replaces.{BeforeOrReplaced, CanReplace, with_replaced}
use Rattle.nv_commit.proofs.BothTails.{both_before, both_front, both_pages, both_show, can_undo, clear, first_stored, front, laid, same_size, second_stored, second_there, short_now, sound_undone}
use Rattle.nv_commit.proofs.Extends.{front_more, slots}
use Rattle.nv_commit.proofs.InOrder.{away}
use Rattle.nv_commit.proofs.Permitted.{valid_permitted}
use Rattle.nv_commit.proofs.TwoWords.{ByJournal, IsInSlot, words_idle, words_undone}

module _ {R : Region} {l : Layout} {held : Store} {cpu i : ℕ} {h : Held} {x : Extension} {j : ℕ} {g : Held} {y : Extension} {k slot : ℕ} (can : CanReplace R l held cpu i h x j g y k slot) where
  -- no append stores the valid word
  pub valid_stays : (S : Region) → IsMixed R (BothWords x y) S → word S slot ≡ word R slot
  valid_stays S mixed =
      let whole = (slots can.two.first).stand.whole k slot can.at in
      mixed_word R S (BothWords x y) slot (omega (arith, whole)) mixed (λ v w. elim w [ inl a ↦ away can.two.first k slot can.at v a | inr b ↦ away can.two.second k slot can.at v b ])

  pub replaced_left : (now : Region) (old new : Choices) → StoresOnly (BothWords x y) R now old new → NothingPending R old → LeavesOnly now new (BeforeOrReplaced l held i h x j g y k)
  replaced_left now old new wrote settled left may = inl (sound_undone (both_before can.two left (mixed_left R now (BothWords x y) old new wrote.mixed.as_long wrote.mixed.same_rest settled wrote.adds left may)))

  module _ {S : Region} {new last : ℕ} (done : AppendsBoth R S x y new last) (first_inside : x.slot + 32 ≤ size R) (second_inside : y.slot + 32 ≤ size R) (third_inside : slot + 8 ≤ size R) (short : length R.rest < 8) where
    abbrev both : Region
    both = put (put S (x.slot + 24) new) (y.slot + 24) last

    abbrev all : Region
    all = put both slot 0

    abbrev changes : List (ℕ × ℕ)
    changes = (x.slot + 24, new) ∷ (y.slot + 24, last) ∷ (slot, 0) ∷ []

    IsPermittedHere : ℕ × ℕ → Type 0
    IsPermittedHere c = IsTrue (is_permitted_by l c.0)

    pub can_undo_all : CanUndoAll (is_permitted_by l) l.sup.cpus S cpu changes
    unfolding IsPermittedHere
    can_undo_all =
        let two = can_undo can.two done short in
        record {
          rule = two.rule;
          journals = two.journals;
          inside = two.inside;
          permits_all = All-cons IsPermittedHere (x.slot + 24, new) ((y.slot + 24, last) ∷ (slot, 0) ∷ []) two.permits_first (All-cons IsPermittedHere (y.slot + 24, last) ((slot, 0) ∷ []) two.permits_second
              (All-cons IsPermittedHere (slot, 0) [] (valid_permitted l k slot (laid can.two done) can.at) (All-nil IsPermittedHere)));
          quiet = two.quiet;
        }

    third_stored : Stored both slot 0 all
    third_stored =
        put_stored both slot 0 (omega (arith, (clear can.two done).whole k slot can.at))
        (omega (arith, third_inside, same_size can.two done, (first_stored can.two done first_inside second_inside short).len, (second_stored can.two done first_inside second_inside short).len))
        (short_now can.two done first_inside second_inside short)

    third_outside : SameOutside both slot 128 all
    third_outside =
        let plus : slot + 0 ≡ slot = omega arith in
        stored_outside both all slot 0 0 ((clear can.two done).whole k slot can.at) refl (omega arith) (subst (λ (n : ℕ). Stored both n 0 all) (sym plus) third_stored)

    two_show : Shows both l (with_logs held i h x j g y)
    two_show = both_show can.two done first_inside second_inside short

    all_show : Shows all l (with_replaced held i h x j g y k)
    all_show = removed l (with_logs held i h x j g y) both all k slot (both_pages can.two done first_inside second_inside short) can.at third_stored two_show

    all_front : SameFront l R all
    all_front = front_more (both_front can.two done first_inside second_inside short) (slot_front l both all k slot (clear can.two done).stand can.at third_outside)

    -- after the change of all three words, and while they change
    abbrev these : Choices
    these = Values changes

    inside : (n v : ℕ) → these n v → IsInSlot l n
    inside n v (inl w) = let number = w.0 in let whole = (clear can.two done).whole i x.slot can.two.first.at in (i, x.slot, can.two.first.at, omega (arith, number, whole), omega (arith, number, whole))
    inside n v (inr (inl w)) = let number = w.0 in let whole = (clear can.two done).whole j y.slot can.two.second.at in (j, y.slot, can.two.second.at, omega (arith, number, whole), omega (arith, number, whole))
    inside n v (inr (inr (inl w))) = let number = w.0 in let whole = (clear can.two done).whole k slot can.at in (k, slot, can.at, omega (arith, number, whole), omega (arith, number, whole))
    inside n v (inr (inr (inr w))) = absurd w

    pub replaced_idle : (N : Region) → SameOutside all (journal cpu) 4096 N → IsEmpty N cpu → IsMixed S (ByJournal cpu these) N → ShowsIdle N l (with_replaced held i h x j g y k)
    replaced_idle N outside empty = words_idle these inside can.two.first.sound (clear can.two done).stand can.two.journals (front can.two done) (second_there can.two done).shows all_front all_show N outside empty

    pub replaced_undone : (left : Region) → BeforeOrAll (is_permitted_by l) l.sup.cpus S changes left → NoJournalFault (is_permitted_by l) l.sup.cpus left → IsMixed S (ByJournal cpu these) left → BeforeOrReplaced l held i h x j g y k left
    replaced_undone left either none = words_undone these inside can.two.first.sound (clear can.two done).stand can.two.journals (front can.two done) (second_there can.two done).shows all_front all_show left either none

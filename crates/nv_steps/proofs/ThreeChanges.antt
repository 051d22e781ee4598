-- Three words that change together by the journal of a CPU, two tails and a valid word or three tails: which words a commit stores
-- then, and what it leaves of the superblock and the other journals.
use Rattle.std.proofs.Common.{◌≡◌, ℕ, ◌+◌, ◌*◌, ◌/◌, ◌<◌, inl, inr, [], ◌∷◌, sym, subst, arith}
use Rattle.std.specs.List.{Contains}
use Rattle.nv_region.specs.Region.{Region}
use Rattle.nv_region.specs.Stops.{IsMixed}
use Rattle.nv_super.specs.Layout.{Layout}
use Rattle.nv_super.proofs.Rising.{Contains-head, Contains-tail}
use Rattle.nv_mounted.specs.Held.{Held, Store}
use Rattle.nv_commit.specs.declared.together.Extension.{Extension}
use Rattle.nv_commit.specs.Replaces.{CanReplace, ReplaceWords}
use Rattle.nv_commit.specs.ThreeLogs.{CanExtendThree, ThreeTogether}
use Rattle.nv_commit.proofs.Extends.{loose_there, slots}
use Rattle.nv_steps.specs.Fronts.{SameFrontBut}
use Rattle.nv_steps.specs.Stores.{StoresIn, in_journal, three_logs, two_less}
use Rattle.nv_steps.proofs.OtherJournals.{in_block, off_loose, off_slot, stored_front}
use Rattle.nv_steps.proofs.Stores.{append_in, second_in, stores_in, word_in}
use Rattle.nv_steps.specs.Slots.{slot_in}

middle_in : (a b c : ℕ) → Contains (a ∷ b ∷ c ∷ []) b
middle_in a b c = Contains-tail a (b ∷ c ∷ []) b (Contains-head b (c ∷ []))

third_in : (a b c : ℕ) → Contains (a ∷ b ∷ c ∷ []) c
third_in a b c = Contains-tail a (b ∷ c ∷ []) c (second_in b c)

-- two tails and a valid word
module _ {R : Region} {l : Layout} {held : Store} {cpu i : ℕ} {h : Held} {x : Extension} {j : ℕ} {g : Held} {y : Extension} {k slot : ℕ} (can : CanReplace R l held cpu i h x j g y k slot) where
  pub replaced_stores : {S : Region} → x.slot ≡ slot_in l i → y.slot ≡ slot_in l j → slot ≡ slot_in l k → IsMixed R (ReplaceWords cpu x y slot) S → StoresIn l held (two_less l cpu i j k) R S
  replaced_stores {S} one two three mixed =
      let p = two_less l cpu i j k in
      let clear = slots can.two.first in
      let whole = clear.whole i x.slot can.two.first.at in
      let also = clear.whole j y.slot can.two.second.at in
      let last = clear.whole k slot can.at in
      stores_in p R S (ReplaceWords cpu x y slot) mixed (λ n v w. elim w [
        | inl (inl a) ↦ append_in p can.two.first (Contains-head i (j ∷ [])) n v a
        | inl (inr b) ↦ append_in p can.two.second (second_in i j) n v b
        | inr (inl c) ↦ in_journal (8 * n) cpu (Contains-head cpu []) c.0 c.1
        | inr (inr (inl c)) ↦ word_in p (x.slot + 24) (omega (arith, whole)) (subst (λ (a : ℕ). Contains p.words (a + 24)) (sym one) (Contains-head (slot_in l i + 24) ((slot_in l j + 24) ∷ slot_in l k ∷ []))) n c.0
        | inr (inr (inr (inl c))) ↦ word_in p (y.slot + 24) (omega (arith, also)) (subst (λ (a : ℕ). Contains p.words (a + 24)) (sym two) (middle_in (slot_in l i + 24) (slot_in l j + 24) (slot_in l k))) n c.0
        | inr (inr (inr (inr (inl c)))) ↦ word_in p slot (omega (arith, last)) (subst (Contains p.words) (sym three) (third_in (slot_in l i + 24) (slot_in l j + 24) (slot_in l k))) n c.0
        | inr (inr (inr (inr (inr c)))) ↦ absurd c
      ])

  in_replaced : (n v : ℕ) → ReplaceWords cpu x y slot n v → 8 * n < (1 + l.sup.cpus) * 4096 → 8 * n / 4096 ≡ 1 + cpu
  in_replaced n v (inl (inl w)) low = absurd (off_loose can.two.first n v low (loose_there can.two.first n v w))
  in_replaced n v (inl (inr w)) low = absurd (off_loose can.two.second n v low (loose_there can.two.second n v w))
  in_replaced n v (inr (inl w)) low = in_block cpu n w.0 w.1
  in_replaced n v (inr (inr (inl w))) low = absurd (off_slot can.two.first n v low i x.slot (x.slot + 24) can.two.first.at (omega arith) w.0)
  in_replaced n v (inr (inr (inr (inl w)))) low = absurd (off_slot can.two.first n v low j y.slot (y.slot + 24) can.two.second.at (omega arith) w.0)
  in_replaced n v (inr (inr (inr (inr (inl w))))) low = absurd (off_slot can.two.first n v low k slot slot can.at (omega arith) w.0)
  in_replaced n v (inr (inr (inr (inr (inr w))))) low = absurd w

  pub replaced_front : (S : Region) → IsMixed R (ReplaceWords cpu x y slot) S → SameFrontBut l.sup.cpus cpu R S
  replaced_front S mixed = stored_front R S l.sup.cpus cpu (ReplaceWords cpu x y slot) mixed in_replaced

-- three tails
module _ {R : Region} {l : Layout} {held : Store} {cpu i : ℕ} {h : Held} {x : Extension} {j : ℕ} {g : Held} {y : Extension} {k : ℕ} {f : Held} {z : Extension} (can : CanExtendThree R l held cpu i h x j g y k f z) where
  pub three_stores : {S : Region} → x.slot ≡ slot_in l i → y.slot ≡ slot_in l j → z.slot ≡ slot_in l k → IsMixed R (ThreeTogether cpu x y z) S → StoresIn l held (three_logs l cpu i j k) R S
  three_stores {S} one two three mixed =
      let p = three_logs l cpu i j k in
      let clear = slots can.third in
      let whole = clear.whole i x.slot can.two.first.at in
      let also = clear.whole j y.slot can.two.second.at in
      let last = clear.whole k z.slot can.third.at in
      stores_in p R S (ThreeTogether cpu x y z) mixed (λ n v w. elim w [
        | inl (inl a) ↦ append_in p can.third (third_in i j k) n v a
        | inl (inr (inl a)) ↦ append_in p can.two.first (Contains-head i (j ∷ k ∷ [])) n v a
        | inl (inr (inr b)) ↦ append_in p can.two.second (middle_in i j k) n v b
        | inr (inl c) ↦ in_journal (8 * n) cpu (Contains-head cpu []) c.0 c.1
        | inr (inr (inl c)) ↦ word_in p (x.slot + 24) (omega (arith, whole)) (subst (λ (a : ℕ). Contains p.words (a + 24)) (sym one) (Contains-head (slot_in l i + 24) ((slot_in l j + 24) ∷ (slot_in l k + 24) ∷ []))) n c.0
        | inr (inr (inr (inl c))) ↦ word_in p (y.slot + 24) (omega (arith, also)) (subst (λ (a : ℕ). Contains p.words (a + 24)) (sym two) (middle_in (slot_in l i + 24) (slot_in l j + 24) (slot_in l k + 24))) n c.0
        | inr (inr (inr (inr (inl c)))) ↦ word_in p (z.slot + 24) (omega (arith, last)) (subst (λ (a : ℕ). Contains p.words (a + 24)) (sym three) (third_in (slot_in l i + 24) (slot_in l j + 24) (slot_in l k + 24))) n c.0
        | inr (inr (inr (inr (inr c)))) ↦ absurd c
      ])

  in_three : (n v : ℕ) → ThreeTogether cpu x y z n v → 8 * n < (1 + l.sup.cpus) * 4096 → 8 * n / 4096 ≡ 1 + cpu
  in_three n v (inl (inl w)) low = absurd (off_loose can.third n v low (loose_there can.third n v w))
  in_three n v (inl (inr (inl w))) low = absurd (off_loose can.two.first n v low (loose_there can.two.first n v w))
  in_three n v (inl (inr (inr w))) low = absurd (off_loose can.two.second n v low (loose_there can.two.second n v w))
  in_three n v (inr (inl w)) low = in_block cpu n w.0 w.1
  in_three n v (inr (inr (inl w))) low = absurd (off_slot can.third n v low i x.slot (x.slot + 24) can.two.first.at (omega arith) w.0)
  in_three n v (inr (inr (inr (inl w)))) low = absurd (off_slot can.third n v low j y.slot (y.slot + 24) can.two.second.at (omega arith) w.0)
  in_three n v (inr (inr (inr (inr (inl w))))) low = absurd (off_slot can.third n v low k z.slot (z.slot + 24) can.third.at (omega arith) w.0)
  in_three n v (inr (inr (inr (inr (inr w))))) low = absurd w

  pub three_front : (S : Region) → IsMixed R (ThreeTogether cpu x y z) S → SameFrontBut l.sup.cpus cpu R S
  three_front S mixed = stored_front R S l.sup.cpus cpu (ThreeTogether cpu x y z) mixed in_three

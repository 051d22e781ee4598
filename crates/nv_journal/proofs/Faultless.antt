-- Nothing is wrong with the journals while two words change together.
use Rattle.std.proofs.Common.{◌≡◌, ◌≢◌, ◌⊎◌, ◌<◌, ◌+◌, ◌-◌, ◌*◌, ◌%◌, ◌&&◌, inl, inr, ℕ, Bool, true, false, true≢false, nat_lt, List, [], ◌∷◌, length, get_or, sym, ap, ◌∙◌, subst, arith}
use Rattle.std.proofs.lemmas.List.FromFn.{get_or-map-range_with_len, length-map-range_with_len}
use Rattle.std.proofs.lemmas.Bool.{cases_eq, cases_lt}
use Rattle.std.proofs.lemmas.Bool.Decides.{nat_tests}
use Rattle.nv_region.specs.Region.{Region, word, put}
use Rattle.nv_region.specs.Stops.{IsMixed}
use Rattle.nv_region.proofs.Puts.{put_other}
use Rattle.nv_region.proofs.Wordwise.{mixed_word}
use Rattle.nv_super.specs.declared.faults.Fault.{Fault}
use Rattle.nv_super.specs.declared.faults.Fault.TheVariants.{J1, J2}
use Rattle.nv_journal.specs.Undo.{journal, dequeue, enqueue, is_sound, pending_count, pending_record, record_at}
use Rattle.nv_journal.specs.Faults.{IsFaultOf, NoJournalFault}
use Rattle.nv_journal.specs.Pending.{Begun, CanUndo, HasRecords, IsEmpty}
use Rattle.nv_journal.specs.Recorded.{Two}
use Rattle.nv_journal.proofs.Both.{SameBlock}
use Rattle.nv_journal.proofs.Emptied.{emptied}
use Rattle.nv_journal.proofs.Pointers.{right_pointers}

module _ (permits : ℕ → Bool) where
  -- a journal whose block reads the same has the same faults
  fault_there : (R S : Region) (cpu : ℕ) → SameBlock (journal cpu) R S → (f : Fault) → IsFaultOf permits S cpu f → IsFaultOf permits R cpu f
  fault_there R S cpu same (J1 c) h =
      let d : dequeue S cpu ≡ dequeue R cpu = same (journal cpu) (omega arith) (omega arith) (omega arith) in
      let e : enqueue S cpu ≡ enqueue R cpu = same (journal cpu + 8) (omega arith) (omega arith) (omega arith) in
      (h.0, elim h.1 [ inl low ↦ inl (omega (arith, low, d)) | inr high ↦ inr (omega (arith, high, e)) ])
  fault_there R S cpu same (J2 c k) h =
      let d : dequeue S cpu ≡ dequeue R cpu = same (journal cpu) (omega arith) (omega arith) (omega arith) in
      let e : enqueue S cpu ≡ enqueue R cpu = same (journal cpu + 8) (omega arith) (omega arith) (omega arith) in
      let is = h.2.2 in
      let less = h.2.1 in
      let below : k < 252 = omega (arith, is) in
      let one : word S (journal cpu + 64 + 16 * k) ≡ word R (journal cpu + 64 + 16 * k) = same (journal cpu + 64 + 16 * k) (omega arith) (omega arith) (omega (arith, below)) in
      let sound : is_sound R cpu ≡ is_sound S cpu = λ i. nat_lt (sym d i) 252 && nat_lt (sym e i) 252 in
      let count : pending_count R cpu ≡ pending_count S cpu = λ i. (sym e i + 252 - sym d i) % 252 in
      (h.0, sound ∙ h.1, (h.2.0, omega (arith, less, count), is ∙ ap (λ (m : ℕ). (m + h.2.0) % 252) d), ap permits (sym one) ∙ h.3)
  fault_there R S cpu same _ h = h

  -- one with no pending record has none
  pub empty_faultless : (S : Region) (cpu : ℕ) → IsEmpty S cpu → (f : Fault) → IsFaultOf permits S cpu f → ⊥
  empty_faultless S cpu empty (J1 c) h = let same = empty.0 in let small = empty.1 in elim h.1 [ inl low ↦ omega (arith, low, same, small) | inr high ↦ omega (arith, high, small) ]
  empty_faultless S cpu empty (J2 c k) h = let same = empty.0 in let some = h.2.1 in omega (arith, same, some)
  empty_faultless S cpu empty _ h = h

  -- nor has one in which two records of permitted words are pending
  pair_faultless : (S : Region) (cpu first second a b : ℕ) → permits first ≡ true → permits second ≡ true → HasRecords S cpu ((first, a) ∷ (second, b) ∷ []) → (f : Fault) → IsFaultOf permits S cpu f → ⊥
  pair_faultless S cpu first second a b one two has (J1 c) h = right_pointers S cpu has.sound h.1
  pair_faultless S cpu first second a b one two has (J2 c k) h = elim (cases_lt j 1) [
    | inl less ↦ (let zero : j ≡ 0 = omega (arith, less) in true≢false (sym one ∙ ap (λ (m : ℕ). permits (get_or Both m (0, 0)).0) (sym zero) ∙ wrong))
    | inr more ↦ (let last : j ≡ 1 = omega (arith, more, below, count) in true≢false (sym two ∙ ap (λ (m : ℕ). permits (get_or Both m (0, 0)).0) (sym last) ∙ wrong))
  ]
    where
      Both : List (ℕ × ℕ)
      Both = (first, a) ∷ (second, b) ∷ []

      j : ℕ
      j = h.2.0

      below : j < pending_count S cpu
      below = h.2.1

      count : pending_count S cpu ≡ 2
      count = sym (length-map-range_with_len (λ (m : ℕ). pending_record S cpu m) 0 (pending_count S cpu)) ∙ ap (λ (l : List (ℕ × ℕ)). length l) has.pending

      this : get_or Both j (0, 0) ≡ pending_record S cpu j
      this = ap (λ (l : List (ℕ × ℕ)). get_or l j (0, 0)) (sym has.pending) ∙ get_or-map-range_with_len (λ (m : ℕ). pending_record S cpu m) 0 (pending_count S cpu) j j (0, 0) below (omega arith)

      wrong : permits (get_or Both j (0, 0)).0 ≡ false
      wrong = ap (λ (r : ℕ × ℕ). permits r.0) this ∙ ap (λ (m : ℕ). permits (record_at S cpu m).0) (sym h.2.2) ∙ h.3
  pair_faultless S cpu first second a b one two has _ h = h

  -- regions with the same journals
  pub same_faultless : (cpus : ℕ) (R S : Region) → ((c : ℕ) → c < cpus → SameBlock (journal c) R S) → NoJournalFault permits cpus R → NoJournalFault permits cpus S
  same_faultless cpus R S same none f fault = none f (fault.0, fault.1, fault_there R S fault.0 (same fault.0 fault.1) f fault.2)

  -- regions with the same journals but for one, with which nothing is wrong
  pub but_one : (cpus : ℕ) (R S : Region) (cpu : ℕ) → ((c : ℕ) → c < cpus → c ≢ cpu → SameBlock (journal c) R S) → ((f : Fault) → IsFaultOf permits S cpu f → ⊥) → NoJournalFault permits cpus R → NoJournalFault permits cpus S
  but_one cpus R S cpu same here none f fault = elim (cases_eq fault.0 cpu) [
    | inl is ↦ here f (subst (λ (c : ℕ). IsFaultOf permits S c f) is fault.2)
    | inr differs ↦ none f (fault.0, fault.1, fault_there R S fault.0 (same fault.0 fault.1 differs) f fault.2)
  ]

-- the moments of a change of two words
module _ (permits : ℕ → Bool) (cpus : ℕ) (R : Region) (cpu first v second w a b : ℕ) (can : CanUndo permits cpus R cpu first second) (none : NoJournalFault permits cpus R) (S : Region) (begun : Begun R cpu ((first, a) ∷ (second, b) ∷ []) S) where
  pub begun_faultless : NoJournalFault permits cpus S
  begun_faultless = but_one permits cpus R S cpu (λ c below differs at whole low high. elim (cases_lt c cpu) [ inl less ↦ begun.others.before at whole (omega (arith, less, high)) | inr more ↦ begun.others.behind at whole (omega (arith, more, differs, low)) ])
      (λ f h. elim begun.whole [ inl empty ↦ empty_faultless permits S cpu empty f h | inr has ↦ pair_faultless permits S cpu first second a b can.permits_first can.permits_second has f h ]) none

  module _ (Q : Region) (mixed : IsMixed S (Two first v second w) Q) where
    low_word : (at : ℕ) → at % 8 ≡ 0 → at < (1 + cpus) * 4096 → word Q at ≡ word S at
    low_word at whole low = mixed_word S Q (Two first v second w) at whole mixed (λ x c. elim c [
      | inl d ↦ omega (arith, d.0, low, (can.rule first can.permits_first).0, (can.rule first can.permits_first).1)
      | inr d ↦ omega (arith, d.0, low, (can.rule second can.permits_second).0, (can.rule second can.permits_second).1)
    ])

    pub pending_faultless : NoJournalFault permits cpus Q
    pending_faultless = same_faultless permits cpus S Q (λ c below at whole low high. low_word at whole (omega (arith, below, high))) begun_faultless

    -- the number that empties the journal is lost, or it is there
    pub emptied_faultless : HasRecords S cpu ((first, a) ∷ (second, b) ∷ []) → (X : Region) → (X ≡ Q) ⊎ (X ≡ put Q (journal cpu) (enqueue Q cpu)) → NoJournalFault permits cpus X
    emptied_faultless has X (inl same) = subst (λ (Y : Region). NoJournalFault permits cpus Y) (sym same) pending_faultless
    emptied_faultless has X (inr is) = but_one permits cpus Q X cpu
        (λ c below differs at whole low high. ap (λ (Y : Region). word Y at) is ∙ put_other Q (journal cpu) (enqueue Q cpu) at (λ e. differs (omega (arith, e, low, high))))
        (empty_faultless permits X cpu (emptied Q X cpu (omega (arith, can.journals, can.inside, mixed.as_long, begun.others.as_long)) is small)) pending_faultless
      where
        same : enqueue Q cpu ≡ enqueue S cpu
        same = low_word (journal cpu + 8) (omega arith) (omega (arith, can.inside))

        small : enqueue Q cpu < 252
        small = let sound = has.sound in grind (arith, nat_tests)

-- journals in which nothing is pending
pub idle_faultless : (permits : ℕ → Bool) (cpus : ℕ) (R : Region) → ((c : ℕ) → c < cpus → (is_sound R c ≡ true) × (dequeue R c ≡ enqueue R c)) → NoJournalFault permits cpus R
idle_faultless permits cpus R idle f fault = empty_faultless permits R fault.0 ((idle fault.0 fault.1).1, small) f fault.2 where
  small : enqueue R fault.0 < 252
  small = let sound = (idle fault.0 fault.1).0 in grind (arith, nat_tests)

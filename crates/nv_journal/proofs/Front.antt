-- Regions with the same words in front of the data blocks: their journals are rolled back to the same words there, and are
-- wrong in the same ways.
use Rattle.std.proofs.Common.{◌≡◌, ℕ, zero, suc, ◌+◌, ◌-◌, ◌*◌, ◌/◌, ◌%◌, ◌==◌, ◌&&◌, ◌<◌, ◌≤◌, inl, inr, Bool, cond, [], ◌++◌, length, map, refl, ap, sym, ◌∙◌, subst, arith}
use Rattle.std.proofs.lemmas.Bool.{cases_lt}
use Rattle.std.proofs.lemmas.List.{get_or_past}
use Rattle.std.specs.List.{range_with_len}
use Rattle.nv_region.specs.Region.{Region, word}
use Rattle.nv_super.specs.declared.faults.Fault.{Fault}
use Rattle.nv_super.specs.declared.faults.Fault.TheVariants.{J1, J2}
use Rattle.nv_inode.specs.Permitted.{LiesBehind}
use Rattle.nv_journal.specs.declared.pending.Pending.{Pending}
use Rattle.nv_journal.specs.Undo.{all_records, count_of, dequeue, enqueue, is_sound, journal, journal_records, number_of, pending_count, pending_from, pending_of, permitted, record_at, settled_word, sound_numbers, undo, undone_word, value_named}
use Rattle.nv_journal.specs.Undone.{SameBefore}
use Rattle.nv_journal.specs.Faults.{IsFaultOf, IsJournalFault}
use Rattle.nv_journal.proofs.Undone.{length_undo, word_undo}

module _ (permits : ℕ → Bool) (cpus : ℕ) (R S : Region) (same : SameBefore ((1 + cpus) * 4096) R S) where
  abbrev low : ℕ
  low = (1 + cpus) * 4096

  same_dequeue : (k : ℕ) → k < cpus → dequeue S k ≡ dequeue R k
  same_dequeue k below = same (journal k) (omega arith) (omega (arith, below))

  same_enqueue : (k : ℕ) → k < cpus → enqueue S k ≡ enqueue R k
  same_enqueue k below = same (journal k + 8) (omega arith) (omega (arith, below))

  same_record : (k p : ℕ) → k < cpus → p < 252 → record_at S k p ≡ record_at R k p
  same_record k p below small =
      let first = same (journal k + 64 + 16 * p) (omega arith) (omega (arith, below, small)) in
      let second = same (journal k + 64 + 16 * p + 8) (omega arith) (omega (arith, below, small)) in
      λ i. (first i, second i)

  same_pending : (k : ℕ) → k < cpus → pending_of S k ≡ pending_of R k
  same_pending k below = λ i. record { cpu = k; dequeue = same_dequeue k below i; enqueue = same_enqueue k below i }

  same_sound : (k : ℕ) → k < cpus → is_sound S k ≡ is_sound R k
  same_sound k below = ap sound_numbers (same_pending k below)

  same_listed : (k : ℕ) → k < cpus → pending_from S k 0 (pending_count S k) ≡ pending_from R k 0 (pending_count R k)
  same_listed k below =
      let each : (j : ℕ) → record_at S k ((dequeue S k + j) % 252) ≡ record_at R k ((dequeue R k + j) % 252) =
      λ j. same_record k ((dequeue S k + j) % 252) below (omega arith) ∙ ap (λ (d : ℕ). record_at R k ((d + j) % 252)) (same_dequeue k below) in
      λ i. map (λ j. each j i) (range_with_len 0 ((same_enqueue k below i + 252 - same_dequeue k below i) % 252))

  same_records : (k : ℕ) → k < cpus → journal_records permits S k ≡ journal_records permits R k
  same_records k below = λ i. cond (same_sound k below i) (permitted permits (same_listed k below i)) []

  same_all : (k : ℕ) → k ≤ cpus → all_records permits S k ≡ all_records permits R k
  same_all zero few = refl
  same_all (suc k) few = λ i. same_records k (omega (arith, few)) i ++ same_all k (omega (arith, few)) i

  same_settled : (k at : ℕ) → k ≤ cpus → word S at ≡ word R at → settled_word S k at ≡ settled_word R k at
  same_settled zero at few here = here
  same_settled (suc k) at few here =
      let sound = same_sound k (omega (arith, few)) in
      let end = same_enqueue k (omega (arith, few)) in
      let rest = same_settled k at (omega (arith, few)) here in
      λ i. cond ((journal k == at) && sound i) (end i) (rest i)

  -- a word that is the same is rolled back to the same
  pub same_undone : LiesBehind permits ((1 + cpus) * 4096) → length S.words ≡ length R.words → (at : ℕ) → at % 8 ≡ 0 → word S at ≡ word R at
      → word (undo permits cpus S) at ≡ word (undo permits cpus R) at
  same_undone rule as_long at aligned here = elim (cases_lt (at / 8) (length R.words)) [
    | inl within ↦ (
        let whole : 8 * (at / 8) ≡ at = omega (arith, aligned) in
        let all = same_all cpus (omega arith) in
        let rest = same_settled cpus at (omega arith) here in
        word_undo permits low rule cpus S (at / 8) (omega (arith, within, as_long)) ∙ ap (undone_word permits cpus S) whole
        ∙ (λ i. value_named (all i) at (rest i))
        ∙ sym (word_undo permits low rule cpus R (at / 8) within ∙ ap (undone_word permits cpus R) whole))
    | inr past ↦
        get_or_past (undo permits cpus S).words (at / 8) 0 (let count = length_undo permits low rule cpus S in omega (arith, count, as_long, past))
        ∙ sym (get_or_past (undo permits cpus R).words (at / 8) 0 (let count = length_undo permits low rule cpus R in omega (arith, count, past)))
  ]

  fault_same : (k : ℕ) → k < cpus → (f : Fault) → IsFaultOf permits R k f → IsFaultOf permits S k f
  fault_same k below (J1 c) h = (
    h.0,
    elim h.1 [
      | inl d ↦ inl (let e = same_dequeue k below in omega (arith, d, e))
      | inr n ↦ inr (let e = same_enqueue k below in omega (arith, n, e))
    ],
  )
  fault_same k below (J2 c n) h =
      let kept : pending_of R k ≡ pending_of S k = sym (same_pending k below) in
      let number : n < 252 = (let is = h.2.2 in omega (arith, is)) in
      let named = same_record k n below number in (
        h.0,
        sym (ap sound_numbers kept) ∙ h.1,
        subst (λ (p : Pending). (j : ℕ) × (j < count_of p) × (n ≡ number_of p j)) kept h.2,
        ap (λ (r : ℕ × ℕ). permits r.0) named ∙ h.3,
      )
  fault_same k below _ h = absurd h

  -- a fault of one region's journals is one of the other's
  pub journal_fault_same : (f : Fault) → IsJournalFault permits cpus R f → IsJournalFault permits cpus S f
  journal_fault_same f h = (h.0, h.1, fault_same h.0 h.1 f h.2)

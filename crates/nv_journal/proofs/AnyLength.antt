-- A region of any length whose journals are rolled back: its superblock is as before, rolling back again changes nothing, and the faults of pointers alone are left.
use Rattle.std.proofs.Common.{◌≡◌, ◌≢◌, ◌↔◌, ◌⊎◌, inl, inr, ◌≤◌, ◌<◌, ◌+◌, ◌*◌, ◌/◌, ◌%◌, ◌==◌, ◌&&◌, ℕ, zero, suc, Bool, true, false, cond, nat_lt, List, [], ◌++◌, length, get_or, refl, sym, ap, ◌∙◌, arith, eqb-true}
use Rattle.std.proofs.lemmas.List.{get_or_past}
use Rattle.std.proofs.lemmas.Bool.{cases_eq, cases_lt}
use Rattle.std.proofs.lemmas.Bool.Decides.{nat_tests}
use Rattle.nv_region.specs.Region.{Region, word, size}
use Rattle.nv_region.proofs.Stops.{same_region}
use Rattle.nv_super.specs.declared.faults.Fault.{Fault}
use Rattle.nv_super.specs.declared.faults.Fault.TheVariants.{J1, J2}
use Rattle.nv_inode.specs.Permitted.{LiesBehind}
use Rattle.nv_journal.specs.Undo.{journal, dequeue, enqueue, is_sound, pending_count, pending_from, permitted, journal_records, all_records, value_named, settled_word, undone_word, undo, IsQuiet}
use Rattle.nv_journal.specs.Faults.{IsFaultOf, IsJournalFault, IsPointerFault}
use Rattle.nv_journal.proofs.Undone.{all_low, word_undo, length_undo}

-- ---- what is settled

pub settled_enqueue : (R : Region) (k j : ℕ) → settled_word R k (journal j + 8) ≡ enqueue R j
settled_enqueue R zero j = refl
settled_enqueue R (suc k) j = skip (omega arith) ∙ settled_enqueue R k j
  where
    skip : journal k ≢ journal j + 8 → settled_word R (suc k) (journal j + 8) ≡ settled_word R k (journal j + 8)
    skip differ = grind (arith, nat_tests)

pub settled_unsound : (R : Region) (k j : ℕ) → is_sound R j ≡ false → settled_word R k (journal j) ≡ dequeue R j
settled_unsound R zero j unsound = refl
settled_unsound R (suc k) j unsound = elim (cases_eq k j) [ inl same ↦ at_it same ∙ settled_unsound R k j unsound | inr differ ↦ skip (omega arith) ∙ settled_unsound R k j unsound ]
  where
    at_it : k ≡ j → settled_word R (suc k) (journal j) ≡ settled_word R k (journal j)
    at_it same = let off : is_sound R k ≡ false = ap (is_sound R) same ∙ unsound in grind (arith, nat_tests)

    skip : journal k ≢ journal j → settled_word R (suc k) (journal j) ≡ settled_word R k (journal j)
    skip differ = grind (arith, nat_tests)

pub settled_sound : (R : Region) (k j : ℕ) → j < k → is_sound R j ≡ true → settled_word R k (journal j) ≡ enqueue R j
settled_sound R zero j below sound = absurd (omega arith)
settled_sound R (suc k) j below sound = elim (cases_eq k j) [ inl same ↦ at_it same | inr differ ↦ skip (omega arith) ∙ settled_sound R k j (omega arith) sound ]
  where
    at_it : k ≡ j → settled_word R (suc k) (journal j) ≡ enqueue R j
    at_it same = let on : is_sound R k ≡ true = ap (is_sound R) same ∙ sound in let e : journal k ≡ journal j = ap journal same in let v : enqueue R k ≡ enqueue R j = ap (enqueue R) same in grind (arith, nat_tests)

    skip : journal k ≢ journal j → settled_word R (suc k) (journal j) ≡ settled_word R k (journal j)
    skip differ = grind (arith, nat_tests)

-- nothing in front of the journals
settled_before : (R : Region) (k at : ℕ) → at < 4096 → settled_word R k at ≡ word R at
settled_before R zero at before = refl
settled_before R (suc k) at before = skip (omega (arith, before)) ∙ settled_before R k at before
  where
    skip : journal k ≢ at → settled_word R (suc k) at ≡ settled_word R k at
    skip differ = grind (arith, nat_tests)

-- nothing where each journal is quiet
pub settled_quiet : (R : Region) (k at : ℕ) → ((j : ℕ) → j < k → IsQuiet R j) → settled_word R k at ≡ word R at
settled_quiet R zero at quiet = refl
settled_quiet R (suc k) at quiet = test (journal k == at) (is_sound R k) refl refl (settled_quiet R k at (λ j less. quiet j (omega arith)))
  where
    test : (here sound : Bool) → (journal k == at) ≡ here → is_sound R k ≡ sound → settled_word R k at ≡ word R at → cond (here && sound) (enqueue R k) (settled_word R k at) ≡ word R at
    test true true here sound rest = sym (quiet k (omega arith) sound) ∙ ap (word R) (eqb-true (journal k) at here)
    test true false here sound rest = rest
    test false sound here e rest = rest

-- ---- what is pending

past_zero : (R : Region) (at : ℕ) → length R.words ≤ at / 8 → word R at ≡ 0
past_zero R at past = get_or_past R.words (at / 8) 0 past

module _ (permits : ℕ → Bool) where
  pub quiet_journal : (R : Region) (k : ℕ) (sound : Bool) → is_sound R k ≡ sound → IsQuiet R k → cond sound (permitted permits (pending_from R k 0 (pending_count R k))) [] ≡ []
  quiet_journal R k false sound quiet = refl
  quiet_journal R k true sound quiet =
      let same = quiet sound in
      let none : pending_count R k ≡ 0 = omega (arith, same) in
      ap (λ (n : ℕ). permitted permits (pending_from R k 0 n)) none

  pub quiet_records : (R : Region) (k : ℕ) → ((j : ℕ) → j < k → IsQuiet R j) → all_records permits R k ≡ []
  quiet_records R zero quiet = refl
  quiet_records R (suc k) quiet =
      let here : journal_records permits R k ≡ [] = quiet_journal R k (is_sound R k) refl (quiet k (omega arith)) in
      let rest : all_records permits R k ≡ [] = quiet_records R k (λ j less. quiet j (omega arith)) in
      λ i. here i ++ rest i

module _ (permits : ℕ → Bool) (cpus : ℕ) (rule : LiesBehind permits ((1 + cpus) * 4096)) (R : Region) where
  -- a word in front of the tables
  low_word : (at value : ℕ) → at % 8 ≡ 0 → at < (1 + cpus) * 4096 → settled_word R cpus at ≡ value → (length R.words ≤ at / 8 → value ≡ 0) → word (undo permits cpus R) at ≡ value
  low_word at value aligned before settled none = elim (cases_lt (at / 8) (length R.words)) [
    | inl within ↦ (
        let whole : 8 * (at / 8) ≡ at = omega (arith, aligned) in
        word_undo permits ((1 + cpus) * 4096) rule cpus R (at / 8) within ∙ ap (undone_word permits cpus R) whole
        ∙ all_low permits ((1 + cpus) * 4096) rule R cpus at (settled_word R cpus at) before ∙ settled)
    | inr past ↦ past_zero (undo permits cpus R) at (let same = length_undo permits ((1 + cpus) * 4096) rule cpus R in omega (arith, same, past)) ∙ sym (none past)
  ]

  pub undone_size : size (undo permits cpus R) ≡ size R
  undone_size = ap (λ (n : ℕ). 8 * n + length R.rest) (length_undo permits ((1 + cpus) * 4096) rule cpus R)

  -- the superblock's words are as before
  pub first_word : (at : ℕ) → at % 8 ≡ 0 → at < 4096 → word (undo permits cpus R) at ≡ word R at
  first_word at aligned before = low_word at (word R at) aligned (omega (arith, before)) (settled_before R cpus at before) (past_zero R at)

  module _ (k : ℕ) (below : k < cpus) where
    enqueue_kept : enqueue (undo permits cpus R) k ≡ enqueue R k
    enqueue_kept = low_word (journal k + 8) (enqueue R k) (omega arith) (omega (arith, below)) (settled_enqueue R cpus k) (past_zero R (journal k + 8))

    -- the dequeue number of a sound journal is its enqueue number
    pub dequeue_settled : is_sound R k ≡ true → dequeue (undo permits cpus R) k ≡ enqueue R k
    dequeue_settled sound = low_word (journal k) (enqueue R k) (omega arith) (omega (arith, below)) (settled_sound R cpus k below sound) (λ past. past_zero R (journal k + 8) (omega (arith, past)))

    dequeue_kept : is_sound R k ≡ false → dequeue (undo permits cpus R) k ≡ dequeue R k
    dequeue_kept unsound = low_word (journal k) (dequeue R k) (omega arith) (omega (arith, below)) (settled_unsound R cpus k unsound) (past_zero R (journal k))

    -- nothing is left to roll back
    pub all_quiet : IsQuiet (undo permits cpus R) k
    all_quiet sound_after = test (is_sound R k) refl
      where
        test : (b : Bool) → is_sound R k ≡ b → dequeue (undo permits cpus R) k ≡ enqueue (undo permits cpus R) k
        test true sound = dequeue_settled sound ∙ sym enqueue_kept
        test false unsound =
            let d = dequeue_kept unsound in
            let e = enqueue_kept in
            let same : is_sound (undo permits cpus R) k ≡ is_sound R k = λ i. nat_lt (d i) 252 && nat_lt (e i) 252 in
            let clash : true ≡ false = sym sound_after ∙ same ∙ unsound in
            cc

    -- ---- the faults of the journals

    wrong_unsound : is_sound R k ≡ true → (252 ≤ dequeue R k) ⊎ (252 ≤ enqueue R k) → ⊥
    wrong_unsound sound wrong = grind (arith, nat_tests)

    -- pointers that are wrong were so, and stay
    stay_wrong : (b : Bool) → is_sound R k ≡ b
        → ((252 ≤ dequeue (undo permits cpus R) k) ⊎ (252 ≤ enqueue (undo permits cpus R) k)) ↔ ((252 ≤ dequeue R k) ⊎ (252 ≤ enqueue R k))
    stay_wrong false unsound =
        let same = dequeue_kept unsound in
        let e = enqueue_kept in (
          (λ either. elim either [ inl d ↦ inl (omega (arith, d, same)) | inr n ↦ inr (omega (arith, n, e)) ]),
          (λ either. elim either [ inl d ↦ inl (omega (arith, d, same)) | inr n ↦ inr (omega (arith, n, e)) ]),
        )
    stay_wrong true sound =
        let d = dequeue_settled sound in
        let e = enqueue_kept in (
          (λ either. elim either [ inl h ↦ inr (omega (arith, h, d)) | inr h ↦ inr (omega (arith, h, e)) ]),
          (λ either. absurd (wrong_unsound sound either)),
        )

    none_pending : is_sound (undo permits cpus R) k ≡ true → pending_count (undo permits cpus R) k ≡ 0
    none_pending sound = let same = all_quiet sound in omega (arith, same)

    fault_left : (f : Fault) → IsFaultOf permits (undo permits cpus R) k f → IsFaultOf permits R k f × IsPointerFault f
    fault_left (J1 c) h = ((h.0, (stay_wrong (is_sound R k) refl).0 h.1), tt)
    fault_left (J2 c n) h = absurd (let none = none_pending h.1 in let some = h.2.1 in omega (arith, none, some))
    fault_left _ h = absurd h

    fault_stays : (f : Fault) → IsFaultOf permits R k f → IsPointerFault f → IsFaultOf permits (undo permits cpus R) k f
    fault_stays (J1 c) h pointer = (h.0, (stay_wrong (is_sound R k) refl).1 h.1)
    fault_stays _ h pointer = absurd pointer

  -- of the journals' faults those of pointers alone are left
  pub faults_left : (f : Fault) → IsJournalFault permits cpus (undo permits cpus R) f ↔ IsJournalFault permits cpus R f × IsPointerFault f
  faults_left f = (
    (λ left. (let now = fault_left left.0 left.1 f left.2 in ((left.0, left.1, now.0), now.1))),
    (λ both. (both.0.0, both.0.1, fault_stays both.0.0 both.0.1 f both.0.2 both.1)),
  )

-- where each journal is quiet, rolling back changes nothing
pub quiet_same : (permits : ℕ → Bool) (cpus : ℕ) → LiesBehind permits ((1 + cpus) * 4096) → (R : Region) → ((j : ℕ) → j < cpus → IsQuiet R j) → undo permits cpus R ≡ R
quiet_same permits cpus rule R quiet = same_region (undo permits cpus R) R as_long refl (λ i within. (
    let inside : i < length R.words = omega (arith, within, as_long) in
    let back : 8 * i / 8 ≡ i = omega arith in
    word_undo permits ((1 + cpus) * 4096) rule cpus R i inside
    ∙ ap (λ (records : List (ℕ × ℕ)). value_named records (8 * i) (settled_word R cpus (8 * i))) (quiet_records permits R cpus quiet)
    ∙ settled_quiet R cpus (8 * i) quiet ∙ ap (λ (j : ℕ). get_or R.words j 0) back)) where
      as_long : length (undo permits cpus R).words ≡ length R.words
      as_long = length_undo permits ((1 + cpus) * 4096) rule cpus R

pub undo_twice : (permits : ℕ → Bool) (cpus : ℕ) → LiesBehind permits ((1 + cpus) * 4096) → (R : Region) → undo permits cpus (undo permits cpus R) ≡ undo permits cpus R
undo_twice permits cpus rule R = quiet_same permits cpus rule (undo permits cpus R) (all_quiet permits cpus rule R)

-- Two words that change together.
use Rattle.std.proofs.Common.{◌≡◌, ◌≢◌, ◌⊎◌, ◌≤◌, ◌<◌, ◌+◌, ◌-◌, ◌*◌, ◌/◌, ◌%◌, ◌&&◌, inl, inr, ℕ, Bool, true, nat_lt, List, [], ◌∷◌, length, map, get_or, set, refl, sym, ap, ◌∙◌, subst, arith, length-set}
use Rattle.std.proofs.lemmas.List.{get_or-set_same, get_or-set_other, get_or_past}
use Rattle.std.proofs.lemmas.List.FromFn.{get_or-map-range_with_len, length-map-range_with_len}
use Rattle.std.proofs.lemmas.Bool.{cases_eq, cases_lt}
use Rattle.std.proofs.lemmas.Bool.Decides.{nat_tests}
use Rattle.std.specs.List.{range_with_len}
use Rattle.nv_region.specs.Region.{Region, word, put}
use Rattle.nv_region.specs.Stops.{IsMixed}
use Rattle.nv_region.specs.Stored.{SameOutside}
use Rattle.nv_region.proofs.Wordwise.{mixed_word}
use Rattle.nv_journal.specs.Undo.{journal, dequeue, enqueue, record_at, pending_count, pending_from, permitted, value_named, undone_word, undo, IsQuiet}
use Rattle.nv_inode.specs.Permitted.{LiesBehind}
use Rattle.nv_journal.specs.Undone.{AllQuiet}
use Rattle.nv_journal.specs.Pending.{BeforeOrAfter, Begun, CanUndo, HasRecords, IsEmpty, IsOutside, SameButJournals}
use Rattle.nv_journal.specs.Recorded.{Two}
use Rattle.nv_region.proofs.Puts.{put_other}
use Rattle.nv_journal.proofs.Undone.{here, not_here}
use Rattle.nv_journal.proofs.OneJournal.{undone_quiet, undone_pending}

-- the same words in a block
abbrev pub SameBlock : ℕ → Region → Region → Type 0
SameBlock base R S = (a : ℕ) → a % 8 ≡ 0 → base ≤ a → a < base + 4096 → word S a ≡ word R a

-- a journal is read from its block
pub same_records : (R S : Region) (cpu : ℕ) (records : List (ℕ × ℕ)) → SameBlock (journal cpu) R S → HasRecords R cpu records → HasRecords S cpu records
same_records R S cpu records same has =
    let deq : dequeue S cpu ≡ dequeue R cpu = same (journal cpu) (omega arith) (omega arith) (omega arith) in
    let enq : enqueue S cpu ≡ enqueue R cpu = same (journal cpu + 8) (omega arith) (omega arith) (omega arith) in
    record {
      sound = ap (λ (d : ℕ). nat_lt d 252 && nat_lt (enqueue S cpu) 252) deq ∙ ap (λ (e : ℕ). nat_lt (dequeue R cpu) 252 && nat_lt e 252) enq ∙ has.sound;
      pending = ap (λ (n : ℕ). pending_from S cpu 0 n) (ap (λ (e : ℕ). (e + 252 - dequeue S cpu) % 252) enq ∙ ap (λ (d : ℕ). (enqueue R cpu + 252 - d) % 252) deq)
          ∙ (λ i. map (λ (j : ℕ). each j i) (range_with_len 0 (pending_count R cpu))) ∙ has.pending;
    }
  where
    each : (j : ℕ) → record_at S cpu ((dequeue S cpu + j) % 252) ≡ record_at R cpu ((dequeue R cpu + j) % 252)
    each j =
        let deq : dequeue S cpu ≡ dequeue R cpu = same (journal cpu) (omega arith) (omega arith) (omega arith) in
        let one : word S (journal cpu + 64 + 16 * ((dequeue R cpu + j) % 252)) ≡ word R (journal cpu + 64 + 16 * ((dequeue R cpu + j) % 252)) = same (journal cpu + 64 + 16 * ((dequeue R cpu + j) % 252)) (omega arith) (omega arith) (omega arith) in
        let two : word S (journal cpu + 64 + 16 * ((dequeue R cpu + j) % 252) + 8) ≡ word R (journal cpu + 64 + 16 * ((dequeue R cpu + j) % 252) + 8) = same (journal cpu + 64 + 16 * ((dequeue R cpu + j) % 252) + 8) (omega arith) (omega arith) (omega arith) in
        ap (λ (d : ℕ). record_at S cpu ((d + j) % 252)) deq ∙ (λ i. (one i, two i))

-- and so is whether it has anything to roll back
pub same_quiet : (R S : Region) (j : ℕ) → word S (journal j) ≡ word R (journal j) → word S (journal j + 8) ≡ word R (journal j + 8) → IsQuiet R j → IsQuiet S j
same_quiet R S j deq enq quiet sound =
    deq ∙ quiet (ap (λ (d : ℕ). nat_lt d 252 && nat_lt (enqueue R j) 252) (sym deq) ∙ ap (λ (e : ℕ). nat_lt (dequeue S j) 252 && nat_lt e 252) (sym enq) ∙ sound) ∙ sym enq

-- the two records, and what stood in their words
abbrev pub both_of : Region → ℕ → ℕ → List (ℕ × ℕ)
both_of R first second = (first, word R first) ∷ (second, word R second) ∷ []

-- the two records with the values that were loaded
module _ (R S : Region) (cpu first second a b : ℕ) (one : a ≡ word R first) (two : b ≡ word R second) where
  both : (first, a) ∷ (second, b) ∷ [] ≡ both_of R first second
  both = λ i. (first, one i) ∷ (second, two i) ∷ []

  both_begun : Begun R cpu ((first, a) ∷ (second, b) ∷ []) S → Begun R cpu (both_of R first second) S
  both_begun = subst (λ (l : List (ℕ × ℕ)). Begun R cpu l S) both

  both_pending : HasRecords S cpu ((first, a) ∷ (second, b) ∷ []) → HasRecords S cpu (both_of R first second)
  both_pending = subst (λ (l : List (ℕ × ℕ)). HasRecords S cpu l) both

-- rolled back, the words are as before
restored : (R : Region) (permits : ℕ → Bool) (first second at v : ℕ) → permits first ≡ true → permits second ≡ true → (at ≢ first → at ≢ second → v ≡ word R at) → value_named (permitted permits (both_of R first second)) at v ≡ word R at
restored R permits first second at v one two other =
    (let e : permitted permits (both_of R first second) ≡ both_of R first second = rw (one, two) refl in ap (λ (l : List (ℕ × ℕ)). value_named l at v) e) ∙ elim (cases_eq first at) [
      | inl is ↦ here (first, word R first) ((second, word R second) ∷ []) at v is ∙ ap (word R) is
      | inr differs ↦ not_here (first, word R first) ((second, word R second) ∷ []) at v differs ∙ elim (cases_eq second at) [
        | inl is ↦ here (second, word R second) [] at v is ∙ ap (word R) is
        | inr differs' ↦ not_here (second, word R second) [] at v differs' ∙ other (λ e. differs (sym e)) (λ e. differs' (sym e))
      ]
    ]

-- a put of the same word in regions that agree at a word
pub put_agrees : (R S : Region) (a v at : ℕ) → length S.words ≡ length R.words → word S at ≡ word R at → word (put S a v) at ≡ word (put R a v) at
put_agrees R S a v at as_long same = elim (cases_eq (at / 8) (a / 8)) [
  | inl is ↦ elim (cases_lt (a / 8) (length R.words)) [
    | inl inside ↦ ap (λ (k : ℕ). get_or (set S.words (a / 8) v) k 0) is ∙ get_or-set_same S.words (a / 8) v 0 (omega (arith, inside, as_long)) ∙ sym (ap (λ (k : ℕ). get_or (set R.words (a / 8) v) k 0) is ∙ get_or-set_same R.words (a / 8) v 0 inside)
    | inr outside ↦ get_or_past (set S.words (a / 8) v) (at / 8) 0 (omega (arith, outside, is, as_long, length-set S.words (a / 8) v)) ∙ sym (get_or_past (set R.words (a / 8) v) (at / 8) 0 (omega (arith, outside, is, length-set R.words (a / 8) v)))
  ]
  | inr differ ↦ get_or-set_other S.words (a / 8) (at / 8) v 0 differ ∙ same ∙ sym (get_or-set_other R.words (a / 8) (at / 8) v 0 differ)
]

module _ (permits : ℕ → Bool) (cpus : ℕ) where
  -- the words of an undone region
  pub undone_is : (R X : Region) → length X.words ≡ length R.words → X.rest ≡ R.rest → ((at : ℕ) → at % 8 ≡ 0 → IsOutside cpus at → undone_word permits cpus X at ≡ word R at) → SameButJournals cpus R (undo permits cpus X)
  undone_is R X as_long same_rest each = record {
    as_long = length_is ∙ as_long;
    same_rest = same_rest;
    words = λ at whole out. elim (cases_lt (at / 8) (length X.words)) [
      | inl inside ↦ get_or-map-range_with_len (λ (j : ℕ). undone_word permits cpus X (8 * j)) 0 (length X.words) (at / 8) (at / 8) 0 inside (omega arith) ∙ ap (λ (a : ℕ). undone_word permits cpus X a) (let k : 8 * (at / 8) ≡ at = omega (arith, whole) in k) ∙ each at whole out
      | inr outside ↦ get_or_past (undo permits cpus X).words (at / 8) 0 (omega (arith, outside, length_is)) ∙ sym (get_or_past R.words (at / 8) 0 (omega (arith, outside, as_long)))
    ];
  }
    where
      length_is : length (undo permits cpus X).words ≡ length X.words
      length_is = length-map-range_with_len (λ (j : ℕ). undone_word permits cpus X (8 * j)) 0 (length X.words)

  module _ (R : Region) (cpu first second : ℕ) (inside : cpu < cpus) (quiet : AllQuiet cpus R) (one : permits first ≡ true) (two : permits second ≡ true) (rule : LiesBehind permits ((1 + cpus) * 4096)) where
    module _ (S : Region) (begun : Begun R cpu (both_of R first second) S) where
      out_word : (at : ℕ) → at % 8 ≡ 0 → IsOutside cpus at → word S at ≡ word R at
      out_word at whole (inl low) = begun.others.before at whole (omega arith)
      out_word at whole (inr high) = begun.others.behind at whole (omega arith)

      quiet_other : (j : ℕ) → j < cpus → j ≢ cpu → IsQuiet S j
      quiet_other j below differs = elim (cases_lt j cpu) [
        | inl low ↦ same_quiet R S j (begun.others.before (journal j) (omega arith) (omega (arith, low))) (begun.others.before (journal j + 8) (omega arith) (omega (arith, low))) (quiet j below)
        | inr high ↦ same_quiet R S j (begun.others.behind (journal j) (omega arith) (omega (arith, high))) (begun.others.behind (journal j + 8) (omega arith) (omega (arith, high))) (quiet j below)
      ]

      quiet_all : IsEmpty S cpu → AllQuiet cpus S
      quiet_all empty j below = elim (cases_eq j cpu) [ inl is ↦ (λ sound. ap (λ (k : ℕ). dequeue S k) is ∙ empty.0 ∙ ap (λ (k : ℕ). enqueue S k) (sym is)) | inr differs ↦ quiet_other j below differs ]

      -- a stop in begin
      begun_before : SameButJournals cpus R (undo permits cpus S)
      begun_before = undone_is R S begun.others.as_long begun.others.same_rest (λ at whole out. elim begun.whole [
        | inl empty ↦ undone_quiet permits cpus S at (quiet_all empty) ∙ out_word at whole out
        | inr has ↦ undone_pending permits cpus S cpu (both_of R first second) has quiet_other at inside out ∙ restored R permits first second at (word S at) one two (λ _ _. out_word at whole out)
      ])

      -- a stop while the records are pending
      module _ (has : HasRecords S cpu (both_of R first second)) (v w : ℕ) (X : Region) (mixed : IsMixed S (Two first v second w) X) where
        away : (at : ℕ) → at % 8 ≡ 0 → at ≢ first → at ≢ second → word X at ≡ word S at
        away at whole n m = mixed_word S X (Two first v second w) at whole mixed (λ x c. elim c [
          | inl d ↦ n (omega (arith, d.0, (rule first one).1))
          | inr d ↦ m (omega (arith, d.0, (rule second two).1))
        ])

        low_word : (at : ℕ) → at % 8 ≡ 0 → at < (1 + cpus) * 4096 → word X at ≡ word S at
        low_word at whole low = away at whole (λ e. omega (arith, e, (rule first one).0)) (λ e. omega (arith, e, (rule second two).0))

        -- undo gives the words from before
        mixed_before : SameButJournals cpus R (undo permits cpus X)
        mixed_before = undone_is R X (mixed.as_long ∙ begun.others.as_long) (mixed.same_rest ∙ begun.others.same_rest) (λ at whole out.
            undone_pending permits cpus X cpu (both_of R first second)
            (same_records S X cpu (both_of R first second) (λ a w l h. low_word a w (omega (arith, h, inside))) has)
            (λ j below differs. same_quiet S X j (low_word (journal j) (omega arith) (omega (arith, below))) (low_word (journal j + 8) (omega arith) (omega (arith, below))) (quiet_other j below differs))
            at inside out
            ∙ restored R permits first second at (word X at) one two (λ n m. away at whole n m ∙ out_word at whole out))

      -- the journal is emptied
      module _ (v w : ℕ) where
        abbrev After : Region
        After = put (put S first v) second w

        abbrev E : Region
        E = put (put (put S first v) second w) (journal cpu) (enqueue (put (put S first v) second w) cpu)

        low_put : (at : ℕ) → at < (1 + cpus) * 4096 → word (put (put S first v) second w) at ≡ word S at
        low_put at low = put_other (put S first v) second w at (λ e. omega (arith, e, low, (rule second two).0, (rule second two).1)) ∙ put_other S first v at (λ e. omega (arith, e, low, (rule first one).0, (rule first one).1))

        -- undo gives both words, changed
        emptied_after : (X : Region) → X ≡ put (put (put S first v) second w) (journal cpu) (enqueue (put (put S first v) second w) cpu) → (1 + cpus) * 4096 ≤ 8 * length R.words → SameButJournals cpus (put (put R first v) second w) (undo permits cpus X)
        emptied_after X is long = subst (λ (Y : Region). SameButJournals cpus (put (put R first v) second w) (undo permits cpus Y)) (sym is)
            (undone_is (put (put R first v) second w) E lengths begun.others.same_rest (λ at whole out.
            undone_quiet permits cpus E at quiet_e ∙ put_other After (journal cpu) (enqueue After cpu) at (other at whole out)
            ∙ put_agrees (put R first v) (put S first v) second w at (length-set S.words (first / 8) v ∙ begun.others.as_long ∙ sym (length-set R.words (first / 8) v)) (put_agrees R S first v at begun.others.as_long (out_word at whole out))))
          where
            lengths : length E.words ≡ length (put (put R first v) second w).words
            lengths = length-set After.words (journal cpu / 8) (enqueue After cpu) ∙ length-set (put S first v).words (second / 8) w ∙ length-set S.words (first / 8) v ∙ begun.others.as_long ∙ sym (length-set (put R first v).words (second / 8) w ∙ length-set R.words (first / 8) v)

            other : (at : ℕ) → at % 8 ≡ 0 → IsOutside cpus at → at / 8 ≢ journal cpu / 8
            other at whole (inl low) e = omega (arith, e, low)
            other at whole (inr high) e = omega (arith, e, high, inside)

            quiet_e : AllQuiet cpus E
            quiet_e j below = elim (cases_eq j cpu) [
              | inl same ↦ (λ sound. ap (λ (k : ℕ). dequeue E k) same
                  ∙ get_or-set_same After.words (journal cpu / 8) (enqueue After cpu) 0 (omega (arith, long, inside, begun.others.as_long, length-set (put S first v).words (second / 8) w, length-set S.words (first / 8) v))
                  ∙ sym (ap (λ (k : ℕ). enqueue E k) same ∙ put_other After (journal cpu) (enqueue After cpu) (journal cpu + 8) (λ e. omega (arith, e))))
              | inr differs ↦ same_quiet S E j (put_other After (journal cpu) (enqueue After cpu) (journal j) (λ e. differs (omega (arith, e))) ∙ low_put (journal j) (omega (arith, below)))
                  (put_other After (journal cpu) (enqueue After cpu) (journal j + 8) (λ e. differs (omega (arith, e))) ∙ low_put (journal j + 8) (omega (arith, below))) (quiet_other j below differs)
            ]

module _ (R S X : Region) (cpu first v second w : ℕ) (records : List (ℕ × ℕ)) (begun : Begun R cpu records S)
    (is : X ≡ put (put (put S first v) second w) (journal cpu) (enqueue (put (put S first v) second w) cpu)) where
  abbrev Old : Region
  Old = put (put R first v) second w

  abbrev New : Region
  New = put (put S first v) second w

  as_long : length X.words ≡ length Old.words
  as_long = ap (λ (Y : Region). length Y.words) is ∙ length-set New.words (journal cpu / 8) (enqueue New cpu) ∙ length-set (put S first v).words (second / 8) w ∙ length-set S.words (first / 8) v ∙ begun.others.as_long
      ∙ sym (length-set (put R first v).words (second / 8) w ∙ length-set R.words (first / 8) v)

  same_rest : X.rest ≡ Old.rest
  same_rest = ap (λ (Y : Region). Y.rest) is ∙ begun.others.same_rest

  changed_word : (at : ℕ) → at % 8 ≡ 0 → (at < journal cpu) ⊎ (journal cpu + 4096 ≤ at) → word X at ≡ word Old at
  changed_word at whole out =
      ap (λ (Y : Region). word Y at) is ∙ put_other New (journal cpu) (enqueue New cpu) at (other out)
      ∙ put_agrees (put R first v) (put S first v) second w at (length-set S.words (first / 8) v ∙ begun.others.as_long ∙ sym (length-set R.words (first / 8) v))
      (put_agrees R S first v at begun.others.as_long (elim out [ inl low ↦ begun.others.before at whole low | inr high ↦ begun.others.behind at whole high ]))
    where
      other : (at < journal cpu) ⊎ (journal cpu + 4096 ≤ at) → at / 8 ≢ journal cpu / 8
      other (inl low) e = omega (arith, e, low)
      other (inr high) e = omega (arith, e, high)

  -- both words are changed, and no other outside this journal's block
  pub changed : SameOutside (put (put R first v) second w) (journal cpu) 4096 X
  changed = record {
    len = omega (arith, as_long, ap (λ (l : List ℕ). length l) same_rest);
    as_long = as_long;
    same_rest = same_rest;
    before = λ at whole low. changed_word at whole (inl low);
    behind = λ at whole high. changed_word at whole (inr high);
  }

-- the records' journal is still sound once both words are stored
pub still_small : (S Q : Region) (cpu first v second w : ℕ) (records : List (ℕ × ℕ)) → HasRecords S cpu records → (journal cpu + 4096 ≤ first) × (journal cpu + 4096 ≤ second) → Q ≡ put (put S first v) second w → enqueue Q cpu < 252
still_small S Q cpu first v second w records has behind is =
    let same : enqueue Q cpu ≡ enqueue S cpu =
    ap (λ (Y : Region). enqueue Y cpu) is ∙ put_other (put S first v) second w (journal cpu + 8) (λ e. omega (arith, e, behind.1)) ∙ put_other S first v (journal cpu + 8) (λ e. omega (arith, e, behind.0)) in
    let sound = has.sound in
    grind (arith, nat_tests)

-- the moments of a change of two words, by the values that were loaded of them
module _ (permits : ℕ → Bool) (cpus : ℕ) (R : Region) (cpu first v second w a b : ℕ) (one : a ≡ word R first) (two : b ≡ word R second) (can : CanUndo permits cpus R cpu first second) where
  abbrev Loaded : List (ℕ × ℕ)
  Loaded = (first, a) ∷ (second, b) ∷ []

  pub while_begun : (S : Region) → Begun R cpu Loaded S → BeforeOrAfter permits cpus R first v second w S
  while_begun S begun = inl (begun_before permits cpus R cpu first second can.inside can.quiet can.permits_first can.permits_second can.rule S (both_begun R S cpu first second a b one two begun))

  module _ (S : Region) (begun : Begun R cpu Loaded S) (has : HasRecords S cpu Loaded) where
    pub while_pending : (X : Region) → IsMixed S (Two first v second w) X → BeforeOrAfter permits cpus R first v second w X
    while_pending X mixed =
        inl (mixed_before permits cpus R cpu first second can.inside can.quiet can.permits_first can.permits_second can.rule S (both_begun R S cpu first second a b one two begun) (both_pending R S cpu first second a b one two has) v w X mixed)

    -- the number that empties the journal is lost, or it is there
    pub once_stored : (Q X : Region) → Q ≡ put (put S first v) second w → IsMixed S (Two first v second w) Q → (X ≡ Q) ⊎ (X ≡ put Q (journal cpu) (enqueue Q cpu)) → BeforeOrAfter permits cpus R first v second w X
    once_stored Q X is mixed (inl same) = while_pending X (subst (λ (Y : Region). IsMixed S (Two first v second w) Y) (sym same) mixed)
    once_stored Q X is mixed (inr emptied) =
        inr (emptied_after permits cpus R cpu first second can.inside can.quiet can.permits_first can.permits_second can.rule S (both_begun R S cpu first second a b one two begun) v w X (emptied ∙ ap (λ (Y : Region). put Y (journal cpu) (enqueue Y cpu)) is) can.journals)

-- Words that change together, any number of them: what a stop leaves.
use Rattle.std.proofs.Common.{◌≡◌, ◌≢◌, ◌⊎◌, ◌≤◌, ◌<◌, ◌+◌, ◌*◌, ◌/◌, ◌%◌, inl, inr, ℕ, Bool, true, false, cond, All, List, [], ◌∷◌, length, map, get_or, refl, sym, ap, ◌∙◌, subst, arith, length-set}
use Rattle.std.proofs.lemmas.List.{get_or-set_same}
use Rattle.std.proofs.lemmas.List.Elements.{All-nil, All-cons, All-head, All-tail}
use Rattle.std.proofs.lemmas.List.FromFn.{get_or-map-range_with_len, length-map-range_with_len}
use Rattle.std.proofs.lemmas.Bool.{cases_eq, cases_lt, true≢false}
use Rattle.std.proofs.lemmas.Bool.Decides.{nat_tests}
use Rattle.nv_region.specs.Region.{Region, word, put}
use Rattle.nv_region.specs.Stops.{IsMixed}
use Rattle.nv_region.specs.Stored.{SameOutside}
use Rattle.nv_region.proofs.Puts.{put_other}
use Rattle.nv_region.proofs.Wordwise.{mixed_word}
use Rattle.nv_super.specs.declared.faults.Fault.{Fault}
use Rattle.nv_super.specs.declared.faults.Fault.TheVariants.{J1, J2}
use Rattle.nv_inode.specs.Permitted.{LiesBehind}
use Rattle.nv_journal.specs.Undo.{journal, dequeue, enqueue, pending_count, pending_record, permitted, record_at, undo, value_named, IsQuiet}
use Rattle.nv_journal.specs.Undone.{AllQuiet}
use Rattle.nv_journal.specs.Pending.{Begun, HasRecords, IsEmpty, IsOutside, SameButJournals}
use Rattle.nv_journal.specs.Faults.{IsFaultOf, NoJournalFault}
use Rattle.nv_journal.specs.Several.{BeforeOrAll, CanUndoAll, Values, changed}
use Rattle.nv_journal.proofs.Both.{put_agrees, same_quiet, same_records, undone_is}
use Rattle.nv_journal.proofs.Emptied.{emptied}
use Rattle.nv_journal.proofs.Faultless.{but_one, empty_faultless, same_faultless}
use Rattle.nv_journal.proofs.OneJournal.{undone_pending, undone_quiet}
use Rattle.nv_journal.proofs.Pointers.{right_pointers}
use Rattle.nv_journal.proofs.Undone.{here, not_here}

-- ---- the changed words

-- the records of the words, with what stood there
abbrev pub old_values : Region → List (ℕ × ℕ) → List (ℕ × ℕ)
old_values R changes = map (λ (c : ℕ × ℕ). (c.0, word R c.0)) changes

-- a word is none of them
abbrev pub IsBeside : List (ℕ × ℕ) → ℕ → Type 0
IsBeside [] at = Unit {0}
IsBeside (c ∷ changes) at = (at ≢ c.0) × IsBeside changes at

-- all of them lie so
abbrev pub AllLie : (ℕ → Type 0) → List (ℕ × ℕ) → Type 0
AllLie P [] = Unit {0}
AllLie P (c ∷ changes) = P c.0 × AllLie P changes

-- a whole word that is none of them isn't stored
pub beside_stays : (changes : List (ℕ × ℕ)) (at : ℕ) → at % 8 ≡ 0 → AllLie (λ a. a % 8 ≡ 0) changes → IsBeside changes at → (x : ℕ) → Values changes (at / 8) x → ⊥
beside_stays [] at whole lie beside x v = v
beside_stays (c ∷ changes) at whole lie beside x (inl one) = let i = one.0 in let rest = lie.0 in beside.0 (omega (arith, i, rest, whole))
beside_stays (c ∷ changes) at whole lie beside x (inr more) = beside_stays changes at whole lie.1 beside.1 x more

-- a word in front of all of them is none of them
pub low_beside : (low : ℕ) (changes : List (ℕ × ℕ)) (at : ℕ) → at < low → AllLie (λ a. low ≤ a) changes → IsBeside changes at
low_beside low [] at less lie = tt
low_beside low (c ∷ changes) at less lie = ((λ same. let high = lie.0 in omega (arith, less, high, same)), low_beside low changes at less lie.1)

changed_long : (changes : List (ℕ × ℕ)) (R : Region) → length (changed changes R).words ≡ length R.words
changed_long [] R = refl
changed_long (c ∷ changes) R = changed_long changes (put R c.0 c.1) ∙ length-set R.words (c.0 / 8) c.1

changed_rest : (changes : List (ℕ × ℕ)) (R : Region) → (changed changes R).rest ≡ R.rest
changed_rest [] R = refl
changed_rest (c ∷ changes) R = changed_rest changes (put R c.0 c.1)

-- a word in front of all of them stays
pub changed_low : (low : ℕ) → low % 8 ≡ 0 → (changes : List (ℕ × ℕ)) (R : Region) (at : ℕ) → at < low → AllLie (λ a. low ≤ a) changes → word (changed changes R) at ≡ word R at
changed_low low whole [] R at less lie = refl
changed_low low whole (c ∷ changes) R at less lie =
    let high = lie.0 in
    changed_low low whole changes (put R c.0 c.1) at less lie.1 ∙ put_other R c.0 c.1 at (λ same. omega (arith, same, less, high, whole))

-- of regions that agree at a word it makes such
changed_agrees : (changes : List (ℕ × ℕ)) (R S : Region) (at : ℕ) → length S.words ≡ length R.words → word S at ≡ word R at → word (changed changes S) at ≡ word (changed changes R) at
changed_agrees [] R S at as_long same = same
changed_agrees (c ∷ changes) R S at as_long same =
    changed_agrees changes (put R c.0 c.1) (put S c.0 c.1) at (length-set S.words (c.0 / 8) c.1 ∙ as_long ∙ sym (length-set R.words (c.0 / 8) c.1)) (put_agrees R S c.0 c.1 at as_long same)

-- ---- permitted words

abbrev IsPermitted : (ℕ → Bool) → ℕ × ℕ → Type 0
IsPermitted permits c = permits c.0 ≡ true

lie_behind : (permits : ℕ → Bool) (low : ℕ) → LiesBehind permits low → (changes : List (ℕ × ℕ)) → All (IsPermitted permits) changes → AllLie (λ a. (low ≤ a) × (a % 8 ≡ 0)) changes
lie_behind permits low rule [] all = tt
lie_behind permits low rule (c ∷ changes) all = (rule c.0 (All-head (IsPermitted permits) c changes all), lie_behind permits low rule changes (All-tail (IsPermitted permits) c changes all))

only : {P Q : ℕ → Type 0} → ((a : ℕ) → P a → Q a) → (changes : List (ℕ × ℕ)) → AllLie P changes → AllLie Q changes
only weaken [] lie = tt
only weaken (c ∷ changes) lie = (weaken c.0 lie.0, only weaken changes lie.1)

permitted_olds : (permits : ℕ → Bool) (R : Region) (changes : List (ℕ × ℕ)) → All (IsPermitted permits) changes → All (IsPermitted permits) (old_values R changes)
permitted_olds permits R [] all = All-nil (IsPermitted permits)
permitted_olds permits R (c ∷ changes) all =
    All-cons (IsPermitted permits) (c.0, word R c.0) (old_values R changes) (All-head (IsPermitted permits) c changes all) (permitted_olds permits R changes (All-tail (IsPermitted permits) c changes all))

-- rolled back, the words are as before
restored : (R : Region) (permits : ℕ → Bool) (changes : List (ℕ × ℕ)) (at v : ℕ) → All (IsPermitted permits) changes → (IsBeside changes at → v ≡ word R at) → value_named (permitted permits (old_values R changes)) at v ≡ word R at
restored R permits [] at v all other = other tt
restored R permits (c ∷ changes) at v all other =
    let rest = permitted permits (old_values R changes) in
    ap (λ (b : Bool). value_named (cond b ((c.0, word R c.0) ∷ rest) rest) at v) (All-head (IsPermitted permits) c changes all) ∙ elim (cases_eq c.0 at) [
      | inl is ↦ here (c.0, word R c.0) rest at v is ∙ ap (word R) is
      | inr differs ↦ not_here (c.0, word R c.0) rest at v differs ∙ restored R permits changes at v (All-tail (IsPermitted permits) c changes all) (λ beside. other ((λ e. differs (sym e)), beside))
    ]

-- ---- the moments of a change

module _ (permits : ℕ → Bool) (cpus : ℕ) (R : Region) (cpu : ℕ) (changes : List (ℕ × ℕ)) (can : CanUndoAll permits cpus R cpu changes) where
  abbrev low : ℕ
  low = (1 + cpus) * 4096

  lie : AllLie (λ a. (low ≤ a) × (a % 8 ≡ 0)) changes
  lie = lie_behind permits low can.rule changes can.permits_all

  high : AllLie (λ a. low ≤ a) changes
  high = only (λ a both. both.0) changes lie

  whole : AllLie (λ a. a % 8 ≡ 0) changes
  whole = only (λ a both. both.1) changes lie

  module _ (S : Region) (begun : Begun R cpu (old_values R changes) S) where
    out_word : (at : ℕ) → at % 8 ≡ 0 → IsOutside cpus at → word S at ≡ word R at
    out_word at w (inl front) = let inside = can.inside in begun.others.before at w (omega (arith, front))
    out_word at w (inr back) = let inside = can.inside in begun.others.behind at w (omega (arith, back, inside))

    quiet_other : (j : ℕ) → j < cpus → j ≢ cpu → IsQuiet S j
    quiet_other j below differs = elim (cases_lt j cpu) [
      | inl less ↦ same_quiet R S j (begun.others.before (journal j) (omega arith) (omega (arith, less))) (begun.others.before (journal j + 8) (omega arith) (omega (arith, less))) (can.quiet j below)
      | inr more ↦ same_quiet R S j (begun.others.behind (journal j) (omega arith) (omega (arith, more, differs))) (begun.others.behind (journal j + 8) (omega arith) (omega (arith, more, differs))) (can.quiet j below)
    ]

    quiet_all : IsEmpty S cpu → AllQuiet cpus S
    quiet_all empty j below = elim (cases_eq j cpu) [ inl is ↦ (λ sound. ap (λ (k : ℕ). dequeue S k) is ∙ empty.0 ∙ ap (λ (k : ℕ). enqueue S k) (sym is)) | inr differs ↦ quiet_other j below differs ]

    -- a stop in begin
    begun_before : SameButJournals cpus R (undo permits cpus S)
    begun_before = undone_is permits cpus R S begun.others.as_long begun.others.same_rest (λ at w out. elim begun.whole [
      | inl empty ↦ undone_quiet permits cpus S at (quiet_all empty) ∙ out_word at w out
      | inr has ↦ undone_pending permits cpus S cpu (old_values R changes) has quiet_other at can.inside out ∙ restored R permits changes at (word S at) can.permits_all (λ _. out_word at w out)
    ])

    pub all_begun : BeforeOrAll permits cpus R changes S
    all_begun = inl begun_before

    module _ (has : HasRecords S cpu (old_values R changes)) where
      -- a stop while the records are pending
      module _ (X : Region) (mixed : IsMixed S (Values changes) X) where
        away : (at : ℕ) → at % 8 ≡ 0 → IsBeside changes at → word X at ≡ word S at
        away at w beside = mixed_word S X (Values changes) at w mixed (beside_stays changes at w whole beside)

        low_word : (at : ℕ) → at % 8 ≡ 0 → at < low → word X at ≡ word S at
        low_word at w less = away at w (low_beside low changes at less high)

        mixed_before : SameButJournals cpus R (undo permits cpus X)
        mixed_before = undone_is permits cpus R X (mixed.as_long ∙ begun.others.as_long) (mixed.same_rest ∙ begun.others.same_rest) (λ at w out.
            undone_pending permits cpus X cpu (old_values R changes)
            (let inside = can.inside in same_records S X cpu (old_values R changes) (λ a h l m. low_word a h (omega (arith, m, inside))) has)
            (λ j below differs. same_quiet S X j (low_word (journal j) (omega arith) (omega (arith, below))) (low_word (journal j + 8) (omega arith) (omega (arith, below))) (quiet_other j below differs))
            at can.inside out
            ∙ restored R permits changes at (word X at) can.permits_all (λ beside. away at w beside ∙ out_word at w out))

        pub all_pending : BeforeOrAll permits cpus R changes X
        all_pending = inl mixed_before

      -- the journal is emptied
      abbrev After : Region
      After = changed changes S

      abbrev E : Region
      E = put After (journal cpu) (enqueue After cpu)

      low_after : (at : ℕ) → at < low → word After at ≡ word S at
      low_after at less = changed_low low (omega arith) changes S at less high

      lengths : length E.words ≡ length (changed changes R).words
      lengths = length-set After.words (journal cpu / 8) (enqueue After cpu) ∙ changed_long changes S ∙ begun.others.as_long ∙ sym (changed_long changes R)

      other : (at : ℕ) → at % 8 ≡ 0 → IsOutside cpus at → at / 8 ≢ journal cpu / 8
      other at w (inl front) e = omega (arith, e, front)
      other at w (inr back) e = let inside = can.inside in omega (arith, e, back, inside)

      quiet_e : AllQuiet cpus E
      quiet_e j below = elim (cases_eq j cpu) [
        | inl same ↦ (λ sound. ap (λ (k : ℕ). dequeue E k) same
            ∙ get_or-set_same After.words (journal cpu / 8) (enqueue After cpu) 0 (omega (arith, can.journals, can.inside, begun.others.as_long, changed_long changes S))
            ∙ sym (ap (λ (k : ℕ). enqueue E k) same ∙ put_other After (journal cpu) (enqueue After cpu) (journal cpu + 8) (λ e. omega (arith, e))))
        | inr differs ↦ same_quiet S E j (put_other After (journal cpu) (enqueue After cpu) (journal j) (λ e. differs (omega (arith, e))) ∙ low_after (journal j) (omega (arith, below)))
            (put_other After (journal cpu) (enqueue After cpu) (journal j + 8) (λ e. differs (omega (arith, e))) ∙ low_after (journal j + 8) (omega (arith, below))) (quiet_other j below differs)
      ]

      -- undo gives all of the words, changed
      emptied_after : SameButJournals cpus (changed changes R) (undo permits cpus E)
      emptied_after = undone_is permits cpus (changed changes R) E lengths (changed_rest changes S ∙ begun.others.same_rest ∙ sym (changed_rest changes R)) (λ at w out.
          undone_quiet permits cpus E at quiet_e ∙ put_other After (journal cpu) (enqueue After cpu) at (other at w out)
          ∙ changed_agrees changes R S at begun.others.as_long (out_word at w out))

      -- the number that empties the journal is lost, or it is there
      pub all_stored : (Q X : Region) → Q ≡ changed changes S → IsMixed S (Values changes) Q → (X ≡ Q) ⊎ (X ≡ put Q (journal cpu) (enqueue Q cpu)) → BeforeOrAll permits cpus R changes X
      all_stored Q X is mixed (inl same) = all_pending X (subst (λ (Y : Region). IsMixed S (Values changes) Y) (sym same) mixed)
      all_stored Q X is mixed (inr done) =
          inr (subst (λ (Y : Region). SameButJournals cpus (changed changes R) (undo permits cpus Y)) (sym (done ∙ ap (λ (Y : Region). put Y (journal cpu) (enqueue Y cpu)) is)) emptied_after)

-- ---- what stands in the region then

module _ (R S X : Region) (cpu : ℕ) (changes : List (ℕ × ℕ)) (records : List (ℕ × ℕ)) (begun : Begun R cpu records S)
    (is : X ≡ put (changed changes S) (journal cpu) (enqueue (changed changes S) cpu)) where
  abbrev New : Region
  New = changed changes S

  as_long : length X.words ≡ length (changed changes R).words
  as_long = ap (λ (Y : Region). length Y.words) is ∙ length-set New.words (journal cpu / 8) (enqueue New cpu) ∙ changed_long changes S ∙ begun.others.as_long ∙ sym (changed_long changes R)

  same_rest : X.rest ≡ (changed changes R).rest
  same_rest = ap (λ (Y : Region). Y.rest) is ∙ changed_rest changes S ∙ begun.others.same_rest ∙ sym (changed_rest changes R)

  changed_word : (at : ℕ) → at % 8 ≡ 0 → (at < journal cpu) ⊎ (journal cpu + 4096 ≤ at) → word X at ≡ word (changed changes R) at
  changed_word at w out =
      ap (λ (Y : Region). word Y at) is ∙ put_other New (journal cpu) (enqueue New cpu) at (apart out)
      ∙ changed_agrees changes R S at begun.others.as_long (elim out [ inl less ↦ begun.others.before at w less | inr more ↦ begun.others.behind at w more ])
    where
      apart : (at < journal cpu) ⊎ (journal cpu + 4096 ≤ at) → at / 8 ≢ journal cpu / 8
      apart (inl less) e = omega (arith, e, less)
      apart (inr more) e = omega (arith, e, more)

  -- all of the words are changed, and no other outside this journal's block
  pub all_changed : SameOutside (changed changes R) (journal cpu) 4096 X
  all_changed = record {
    len = omega (arith, as_long, ap (λ (l : List ℕ). length l) same_rest);
    as_long = as_long;
    same_rest = same_rest;
    before = λ at w less. changed_word at w (inl less);
    behind = λ at w more. changed_word at w (inr more);
  }

-- the records' journal is still sound once all words are stored
pub all_small : (S Q : Region) (cpu : ℕ) (changes : List (ℕ × ℕ)) (records : List (ℕ × ℕ)) → HasRecords S cpu records → AllLie (λ a. journal cpu + 4096 ≤ a) changes → Q ≡ changed changes S → enqueue Q cpu < 252
all_small S Q cpu changes records has behind is =
    let same : enqueue Q cpu ≡ enqueue S cpu = ap (λ (Y : Region). enqueue Y cpu) is ∙ changed_low (journal cpu + 4096) (omega arith) changes S (journal cpu + 8) (omega arith) behind in
    let sound = has.sound in
    grind (arith, nat_tests)

-- ---- nothing is wrong with the journals

-- nothing is wrong with one in which records of permitted words are pending
records_faultless : (permits : ℕ → Bool) (S : Region) (cpu : ℕ) (records : List (ℕ × ℕ)) → All (IsPermitted permits) records → HasRecords S cpu records → (f : Fault) → IsFaultOf permits S cpu f → ⊥
records_faultless permits S cpu records all has (J1 c) h = right_pointers S cpu has.sound h.1
records_faultless permits S cpu records all has (J2 c k) h =
    let j : ℕ = h.2.0 in
    let count : pending_count S cpu ≡ length records = sym (length-map-range_with_len (λ (m : ℕ). pending_record S cpu m) 0 (pending_count S cpu)) ∙ ap (λ (l : List (ℕ × ℕ)). length l) has.pending in
    let this : get_or records j (0, 0) ≡ pending_record S cpu j =
    ap (λ (l : List (ℕ × ℕ)). get_or l j (0, 0)) (sym has.pending) ∙ get_or-map-range_with_len (λ (m : ℕ). pending_record S cpu m) 0 (pending_count S cpu) j j (0, 0) h.2.1 (omega arith) in
    let wrong : permits (get_or records j (0, 0)).0 ≡ false = ap (λ (r : ℕ × ℕ). permits r.0) this ∙ ap (λ (m : ℕ). permits (record_at S cpu m).0) (sym h.2.2) ∙ h.3 in
    let below : j < length records = let less = h.2.1 in omega (arith, less, count) in
    true≢false (sym (all j (0, 0) below) ∙ wrong)
records_faultless permits S cpu records all has _ h = h

module _ (permits : ℕ → Bool) (cpus : ℕ) (R : Region) (cpu : ℕ) (changes : List (ℕ × ℕ)) (can : CanUndoAll permits cpus R cpu changes) (none : NoJournalFault permits cpus R) (S : Region) (begun : Begun R cpu (old_values R changes) S) where
  pub all_begun_faultless : NoJournalFault permits cpus S
  all_begun_faultless = but_one permits cpus R S cpu
      (λ c below differs at w front back. elim (cases_lt c cpu) [ inl less ↦ begun.others.before at w (omega (arith, less, back)) | inr more ↦ begun.others.behind at w (omega (arith, more, differs, front)) ])
      (λ f h. elim begun.whole [ inl empty ↦ empty_faultless permits S cpu empty f h | inr has ↦ records_faultless permits S cpu (old_values R changes) (permitted_olds permits R changes can.permits_all) has f h ]) none

  module _ (Q : Region) (mixed : IsMixed S (Values changes) Q) where
    front_word : (at : ℕ) → at % 8 ≡ 0 → at < (1 + cpus) * 4096 → word Q at ≡ word S at
    front_word at w less = mixed_word S Q (Values changes) at w mixed (beside_stays changes at w (whole permits cpus R cpu changes can) (low_beside ((1 + cpus) * 4096) changes at less (high permits cpus R cpu changes can)))

    pub all_pending_faultless : NoJournalFault permits cpus Q
    all_pending_faultless = same_faultless permits cpus S Q (λ c below at w front back. front_word at w (omega (arith, below, back))) all_begun_faultless

    -- the number that empties the journal is lost, or it is there
    pub all_emptied_faultless : HasRecords S cpu (old_values R changes) → (X : Region) → (X ≡ Q) ⊎ (X ≡ put Q (journal cpu) (enqueue Q cpu)) → NoJournalFault permits cpus X
    all_emptied_faultless has X (inl same) = subst (λ (Y : Region). NoJournalFault permits cpus Y) (sym same) all_pending_faultless
    all_emptied_faultless has X (inr is) = but_one permits cpus Q X cpu
        (λ c below differs at w front back. ap (λ (Y : Region). word Y at) is ∙ put_other Q (journal cpu) (enqueue Q cpu) at (λ e. differs (omega (arith, e, front, back))))
        (empty_faultless permits X cpu (emptied Q X cpu (omega (arith, can.journals, can.inside, mixed.as_long, begun.others.as_long)) is small)) all_pending_faultless
      where
        same : enqueue Q cpu ≡ enqueue S cpu
        same = let inside = can.inside in front_word (journal cpu + 8) (omega arith) (omega (arith, inside))

        small : enqueue Q cpu < 252
        small = let sound = has.sound in grind (arith, nat_tests, same)

-- ---- three words, by the values that were loaded of them

module _ (R : Region) (cpu : ℕ) (f s t : ℕ × ℕ) (a b d : ℕ) (one : a ≡ word R f.0) (two : b ≡ word R s.0) (three : d ≡ word R t.0) where
  abbrev Three : List (ℕ × ℕ)
  Three = f ∷ s ∷ t ∷ []

  loaded : (f.0, a) ∷ (s.0, b) ∷ (t.0, d) ∷ [] ≡ old_values R Three
  loaded = λ i. (f.0, one i) ∷ (s.0, two i) ∷ (t.0, three i) ∷ []

  pub three_begun : (S : Region) → Begun R cpu ((f.0, a) ∷ (s.0, b) ∷ (t.0, d) ∷ []) S → Begun R cpu (old_values R Three) S
  three_begun S = subst (λ (l : List (ℕ × ℕ)). Begun R cpu l S) loaded

  pub three_pending : (S : Region) → HasRecords S cpu ((f.0, a) ∷ (s.0, b) ∷ (t.0, d) ∷ []) → HasRecords S cpu (old_values R Three)
  three_pending S = subst (λ (l : List (ℕ × ℕ)). HasRecords S cpu l) loaded

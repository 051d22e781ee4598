-- Words in a row that are stored in turn.
use Rattle.std.proofs.Common.{◌≡◌, ◌≢◌, ◌⊎◌, inl, inr, ◌+◌, ◌-◌, ◌*◌, ◌/◌, ◌%◌, ◌<◌, ◌≤◌, ℕ, zero, suc, List, length, get_or, set, refl, sym, ap, ◌∙◌, subst, arith, add-one, length-set, get_or-set_same, get_or-set_other}
use Rattle.std.proofs.lemmas.Bool.{cases_eq, cases_lt}
use Rattle.std.proofs.lemmas.List.{places, ext_get_or}
use Rattle.nv_region.specs.Region.{Region, size, put}
use Rattle.nv_region.specs.Stops.{Choices, Adds, One}
use Rattle.nv_region.specs.Lines.{put_words, Each, FirstStored}
use Rattle.nv_region.proofs.Stops.{adds_more}
use borrow.Rule.Slice.PartMut.{put_mid}

pub put_words_long : (R : Region) (at : ℕ) (words : List ℕ) (n : ℕ) → length (put_words R at words n).words ≡ length R.words
put_words_long R at words zero = refl
put_words_long R at words (suc n) = length-set (put_words R at words n).words ((at + 8 * n) / 8) (get_or words n 0) ∙ put_words_long R at words n

pub put_words_rest : (R : Region) (at : ℕ) (words : List ℕ) (n : ℕ) → (put_words R at words n).rest ≡ R.rest
put_words_rest R at words zero = refl
put_words_rest R at words (suc n) = put_words_rest R at words n

pub put_words_size : (R : Region) (at : ℕ) (words : List ℕ) (n : ℕ) → size (put_words R at words n) ≡ size R
put_words_size R at words n = omega (arith, put_words_long R at words n, ap length (put_words_rest R at words n))

-- a word that isn't among those stored is as it was
pub words_elsewhere : (R : Region) (at : ℕ) (words : List ℕ) (n i : ℕ) → at % 8 ≡ 0 → ((k : ℕ) → k < n → i ≢ at / 8 + k) → get_or (put_words R at words n).words i 0 ≡ get_or R.words i 0
words_elsewhere R at words zero i aligned away = refl
words_elsewhere R at words (suc n) i aligned away =
    get_or-set_other (put_words R at words n).words ((at + 8 * n) / 8) i (get_or words n 0) 0 (λ e. away n (omega arith) (omega arith))
    ∙ words_elsewhere R at words n i aligned (λ k below. away k (omega arith))

-- each word that was stored is there
pub words_here : (R : Region) (at : ℕ) (words : List ℕ) (n k : ℕ) → at % 8 ≡ 0 → at / 8 + n ≤ length R.words → k < n → get_or (put_words R at words n).words (at / 8 + k) 0 ≡ get_or words k 0
words_here R at words zero k aligned within below = absurd (omega arith)
words_here R at words (suc n) k aligned within below = elim (cases_eq k n) [
  | inl same ↦
      let place : (at + 8 * n) / 8 ≡ at / 8 + k = omega arith in
      ap (λ (j : ℕ). get_or (set_at j) (at / 8 + k) 0) place ∙ get_or-set_same (put_words R at words n).words (at / 8 + k) (get_or words n 0) 0 (omega (arith, put_words_long R at words n)) ∙ ap (λ (j : ℕ). get_or words j 0) (sym same)
  | inr differ ↦
      get_or-set_other (put_words R at words n).words ((at + 8 * n) / 8) (at / 8 + k) (get_or words n 0) 0 (λ e. differ (omega arith))
      ∙ words_here R at words n k aligned (omega arith) (omega (arith, below, differ))
]
  where
    set_at : ℕ → List ℕ
    set_at j = set (put_words R at words n).words j (get_or words n 0)

-- ---- in turn

pub same_stored : (at : ℕ) (words : List ℕ) (n : ℕ) (R Q S : Region) (old mid new : Choices) → FirstStored at words n R Q old mid → S ≡ Q → ((i x : ℕ) → new i x → mid i x) → FirstStored at words n R S old new
same_stored at words n R Q S old mid new first same none = record { reads = same ∙ first.reads; adds = λ i x may. first.adds i x (none i x may) }

pub one_more : (at : ℕ) (words : List ℕ) (n : ℕ) (R Q S : Region) (old mid new : Choices) → FirstStored at words n R Q old mid → S ≡ put Q (at + 8 * n) (get_or words n 0) → Adds (One (at + 8 * n) (get_or words n 0)) mid new → FirstStored at words (n + 1) R S old new
one_more at words n R Q S old mid new first is adds = record {
  reads = is ∙ ap (λ (P : Region). put P (at + 8 * n) (get_or words n 0)) first.reads ∙ ap (put_words R at words) (sym (add-one n));
  adds = adds_more (Each at words (n + 1)) (One (at + 8 * n) (get_or words n 0)) old mid new (λ i x one. (n, omega arith, one))
      (λ i x may. elim (first.adds i x may) [ inl before ↦ inl before | inr here ↦ inr (here.0, omega (arith, here.1), here.2) ]) adds;
}

pub first_size : {at n : ℕ} {words : List ℕ} {R Q : Region} {old mid : Choices} → FirstStored at words n R Q old mid → size Q ≡ size R
first_size {at} {n} {words} {R} first = ap size first.reads ∙ put_words_size R at words n

-- ---- words that are copied

-- words in a row that are put at once are those put in turn
pub words_copied : (R : Region) (part words : List ℕ) (first n : ℕ) → length words ≡ n → first + n ≤ length R.words → part ≡ words → put_mid first (first + n - first) R.words part ≡ (put_words R (8 * first) words n).words
words_copied R part words first n as_long within is =
    let long : length (put_mid first (first + n - first) R.words part) ≡ length R.words = rw is (mid_long R.words words first (first + n - first) (omega arith) (omega arith)) in
    ext_get_or 0 _ _ (long ∙ sym (put_words_long R (8 * first) words n)) (λ i inside. elim (cases_lt i first) [
      | inl low ↦ rw is (mid_before R.words words first (first + n - first) i (omega arith) (omega arith) low) ∙ sym (words_elsewhere R (8 * first) words n i (omega arith) (λ k few e. absurd (omega (arith, e, low))))
      | inr high ↦ elim (cases_lt i (first + n)) [
        | inl below ↦
            let place : 8 * first / 8 + (i - first) ≡ i = omega (arith, high) in
            rw is (mid_here R.words words first (first + n - first) i (omega arith) (omega arith) high (omega arith))
            ∙ sym (ap (λ (j : ℕ). get_or (put_words R (8 * first) words n).words j 0) (sym place) ∙ words_here R (8 * first) words n (i - first) (omega arith) (omega arith) (omega arith))
        | inr behind ↦ rw is (mid_behind R.words words first (first + n - first) i (omega arith) (omega arith) (omega arith)) ∙ sym (words_elsewhere R (8 * first) words n i (omega arith) (λ k few e. absurd (omega (arith, e, few, behind))))
      ]
    ])
  where
    mid_long : (xs ys : List ℕ) (a k : ℕ) → length ys ≡ k → a + k ≤ length xs → length (put_mid a k xs ys) ≡ length xs
    mid_long xs ys a k as_long within = grind (arith, places)

    mid_here : (xs ys : List ℕ) (a k i : ℕ) → length ys ≡ k → a + k ≤ length xs → a ≤ i → i < a + k → get_or (put_mid a k xs ys) i 0 ≡ get_or ys (i - a) 0
    mid_here xs ys a k i as_long within low high = grind (arith, places)

    mid_before : (xs ys : List ℕ) (a k i : ℕ) → length ys ≡ k → a + k ≤ length xs → i < a → get_or (put_mid a k xs ys) i 0 ≡ get_or xs i 0
    mid_before xs ys a k i as_long within low = grind (arith, places)

    mid_behind : (xs ys : List ℕ) (a k i : ℕ) → length ys ≡ k → a + k ≤ length xs → a + k ≤ i → get_or (put_mid a k xs ys) i 0 ≡ get_or xs i 0
    mid_behind xs ys a k i as_long within high = grind (arith, places)

-- of the words after stores, each is one of those stored or as before
pub words_add : (R : Region) (at : ℕ) (words : List ℕ) (n i x : ℕ) → at % 8 ≡ 0 → at / 8 + n ≤ length R.words → x ≡ get_or (put_words R at words n).words i 0 → (x ≡ get_or R.words i 0) ⊎ Each at words n i x
words_add R at words n i x aligned within is = elim (cases i) [
  | inl away ↦ inl (is ∙ words_elsewhere R at words n i aligned (λ k few e. away (omega (arith, e)) (omega (arith, e, few))))
  | inr here ↦
      let place : at / 8 + (i - at / 8) ≡ i = omega (arith, here.0) in
      inr (i - at / 8, omega (arith, here.1), (omega (arith, here.0, aligned), is ∙ ap (λ (j : ℕ). get_or (put_words R at words n).words j 0) (sym place) ∙ words_here R at words n (i - at / 8) aligned within (omega (arith, here.0, here.1))))
]
  where
    cases : (i : ℕ) → (at / 8 ≤ i → i < at / 8 + n → ⊥) ⊎ ((at / 8 ≤ i) × (i < at / 8 + n))
    cases i = elim (cases_lt i (at / 8)) [ inl low ↦ inl (λ from to. absurd (omega (arith, low, from))) | inr from ↦ elim (cases_lt i (at / 8 + n)) [ inl to ↦ inr (from, to) | inr past ↦ inl (λ h to. absurd (omega (arith, past, to))) ] ]

-- once all are stored
pub all_added : {at n : ℕ} {words : List ℕ} {R Q : Region} {old mid : Choices} (k : ℕ) → k ≡ n → FirstStored at words k R Q old mid → Adds (Each at words n) old mid
all_added {at} {n} {words} {R} {Q} {old} {mid} k all first = subst (λ (m : ℕ). Adds (Each at words m) old mid) all first.adds

-- of words that are stored in a row, no line behind them or before them changes
pub row_other : (R : Region) (first : ℕ) (words : List ℕ) (n i : ℕ) → (first / 8 ≤ i / 8 → i / 8 < (first + n + 7) / 8 → ⊥) → get_or (put_words R (8 * first) words n).words i 0 ≡ get_or R.words i 0
row_other R first words n i other = words_elsewhere R (8 * first) words n i (omega arith) (λ k few e. other (omega (arith, e)) (omega (arith, e, few)))

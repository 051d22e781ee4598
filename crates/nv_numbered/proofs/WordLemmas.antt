-- The words of leaves as one list: where each stands, and what a write changes.
use Rattle.std.proofs.Common.{◌≡◌, ◌≢◌, ℕ, ◌*◌, ◌/◌, ◌%◌, ◌<◌, ◌≤◌, List, [], length, get_or, set, replicate, refl, sym, ap, ◌∙◌, inl, inr, zero-add, arith, length-set}
use Rattle.std.proofs.lemmas.Bool.{cases_eq, cases_lt}
use Rattle.std.proofs.lemmas.List.{ext_get_or, get_or_past, get_or-set_other, get_or-replicate, length-replicate}
use Rattle.std.proofs.lemmas.List.FromFn.{length-map-range_with_len, get_or-map-range_with_len}
use Rattle.std.proofs.lemmas.Grind.{get_or-set_at}
use Rattle.nv_numbered.specs.Leaved.{word_at, words_of}

pub length-words_of : (leaves : List (List ℕ)) (len : ℕ) → length (words_of leaves len) ≡ len
length-words_of leaves len = length-map-range_with_len (word_at leaves) 0 len

-- the word at a place
pub word_read : (leaves : List (List ℕ)) (len place : ℕ) → place < len → get_or (words_of leaves len) place 0 ≡ word_at leaves place
word_read leaves len place within = get_or-map-range_with_len (word_at leaves) 0 len place place 0 within (zero-add place)

-- there is none past the last
pub word_past : (leaves : List (List ℕ)) (len place : ℕ) → len ≤ place → get_or (words_of leaves len) place 0 ≡ 0
word_past leaves len place past = get_or_past (words_of leaves len) place 0 (omega (arith, past, length-words_of leaves len))

-- where no leaf has words, each is 0
pub word_none : (count k : ℕ) → word_at (replicate count []) k ≡ 0
word_none count k = ap (λ (words : List ℕ). get_or words (k % 4096) 0) (bare (k / 4096)) where
  bare : (q : ℕ) → get_or {A = List ℕ} (replicate count []) q [] ≡ []
  bare q = elim (cases_lt q count) [
    | inl low ↦ get_or-replicate {A = List ℕ} count q [] [] low
    | inr past ↦ get_or_past {X = List ℕ} (replicate count []) q [] (omega (arith, past, length-replicate {A = List ℕ} count []))
  ]

-- and so all are
pub words_none : (count len : ℕ) → words_of (replicate count []) len ≡ replicate len 0
words_none count len = ext_get_or 0 (words_of (replicate count []) len) (replicate len 0) (length-words_of (replicate count []) len ∙ sym (length-replicate {A = ℕ} len 0)) (λ k inside.
    let within : k < len = omega (arith, inside, length-words_of (replicate count []) len) in
    word_read (replicate count []) len k within ∙ word_none count k ∙ sym (get_or-replicate len k 0 0 within))

module _ (leaves : List (List ℕ)) (len place w : ℕ) (words : List ℕ) (within : place < len) (reach : len ≤ 4096 * length leaves) (here : get_or words (place % 4096) 0 ≡ w)
    (others : (j : ℕ) → j ≢ place % 4096 → get_or words j 0 ≡ get_or (get_or leaves (place / 4096) []) j 0) where
  inside : place / 4096 < length leaves
  inside = omega (arith, within, reach)

  at_same : (k : ℕ) → k ≡ place → word_at (set leaves (place / 4096) words) k ≡ w
  at_same k same =
      ap (λ (n : ℕ). word_at (set leaves (place / 4096) words) n) same
      ∙ ap (λ (xs : List ℕ). get_or xs (place % 4096) 0) (get_or-set_at leaves (place / 4096) (place / 4096) words [] refl inside)
      ∙ here

  pub at_other : (k : ℕ) → k ≢ place → word_at (set leaves (place / 4096) words) k ≡ word_at leaves k
  at_other k differs = elim (cases_eq (k / 4096) (place / 4096)) [
    | inl same ↦
        let apart : k % 4096 ≢ place % 4096 = λ e. differs (omega (arith, same, e)) in
        ap (λ (xs : List ℕ). get_or xs (k % 4096) 0) (get_or-set_at leaves (place / 4096) (k / 4096) words [] same inside)
        ∙ others (k % 4096) apart
        ∙ ap (λ (q : ℕ). get_or (get_or leaves q []) (k % 4096) 0) (sym same)
    | inr leaf_differs ↦ ap (λ (xs : List ℕ). get_or xs (k % 4096) 0) (get_or-set_other leaves (place / 4096) (k / 4096) words [] leaf_differs)
  ]

  -- a leaf gets words of which the one at the place alone is another
  pub words-set : words_of (set leaves (place / 4096) words) len ≡ set (words_of leaves len) place w
  words-set =
      let new = set leaves (place / 4096) words in
      let old = words_of leaves len in
      ext_get_or 0 (words_of new len) (set old place w) (length-words_of new len ∙ sym (length-set old place w ∙ length-words_of leaves len)) (λ k in_new.
      let low : k < len = omega (arith, in_new, length-words_of new len) in
      word_read new len k low ∙ (elim (cases_eq k place) [
        | inl same ↦ at_same k same ∙ sym (get_or-set_at old place k w 0 same (omega (arith, within, length-words_of leaves len)))
        | inr differs ↦ at_other k differs ∙ sym (get_or-set_other old place k w 0 differs ∙ word_read leaves len k low)
      ]))

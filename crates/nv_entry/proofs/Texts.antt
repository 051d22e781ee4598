-- The text that stands at an address.
use Rattle.std.proofs.Common.{◌≡◌, ℕ, zero, suc, ◌+◌, ◌-◌, ◌*◌, ◌/◌, ◌%◌, ◌<◌, ◌≤◌, List, [], ◌∷◌, ◌++◌, length, take, get_or, refl, ap, sym, ◌∙◌, subst, arith, length-append, length-take, append-nil, add-one, min}
use Rattle.std.specs.List.{flat_map, range_with_len}
use Rattle.std.proofs.Math.Seq.{take-append-add}
use Rattle.std.proofs.lemmas.List.{take_all}
use Rattle.std.proofs.lemmas.Grind.{flat_map-append}
use Rattle.nv_super.proofs.Ranges.{one_more}
use Rattle.nv_region.specs.Region.{Region, word}
use Rattle.nv_entry.specs.Digits.{low_bytes, high_part}
use Rattle.nv_entry.specs.Name.{IsName}
use Rattle.nv_entry.specs.Spelling.{words_for, IsTextAt}
use Rattle.nv_entry.specs.Light.{text_at}
use Rattle.nv_entry.proofs.Words.{length-low_bytes, fits_append, fits_take, low_bytes_fit, TextBelow, text_more}

-- ---- bytes by eights

low_front : (part n w : ℕ) → part ≤ n → take part (low_bytes n w) ≡ low_bytes part w
low_front zero n w few = refl
low_front (suc part) zero w few = absurd (omega (arith, few))
low_front (suc part) (suc n) w few = ap (λ (xs : List ℕ). (w % 256) ∷ xs) (low_front part n (w / 256) (omega (arith, few)))

module _ (f : ℕ → List ℕ) (each : (k : ℕ) → length (f k) ≡ 8) where
  length_eights : (a n : ℕ) → length (flat_map f (range_with_len a n)) ≡ 8 * n
  length_eights a zero = omega arith
  length_eights a (suc n) =
      let both = length-append (f a) (flat_map f (range_with_len (a + 1) n)) in
      let first = each a in
      let rest = length_eights (a + 1) n in
      omega (arith, both, first, rest)

  eights_more : (n : ℕ) → flat_map f (range_with_len 0 (suc n)) ≡ flat_map f (range_with_len 0 n) ++ f n
  eights_more n =
      ap (λ (k : ℕ). flat_map f (range_with_len 0 k)) (sym (add-one n)) ∙ ap (flat_map f) (sym (one_more 0 n)) ∙ flat_map-append f (range_with_len 0 n) ((0 + n) ∷ [])
      ∙ ap (λ (xs : List ℕ). flat_map f (range_with_len 0 n) ++ xs) (append-nil (f (0 + n)) ∙ ap f (omega arith))

  abbrev front : ℕ → List ℕ
  front n = take n (flat_map f (range_with_len 0 (words_for n)))

  front_length : (n : ℕ) → length (front n) ≡ n
  front_length n =
      let few = length-take n (flat_map f (range_with_len 0 (words_for n))) in
      let all = length_eights 0 (words_for n) in
      omega (arith, few, all)

  front_eights : (k : ℕ) → front (8 * k) ≡ flat_map f (range_with_len 0 k)
  front_eights k =
      let count : words_for (8 * k) ≡ k = omega arith in
      ap (λ (m : ℕ). take (8 * k) (flat_map f (range_with_len 0 m))) count ∙ take_all (8 * k) (flat_map f (range_with_len 0 k)) (let all = length_eights 0 k in omega (arith, all))

  -- a part of the next eight
  front_more : (k part : ℕ) → part ≤ 8 → front (8 * k + part) ≡ front (8 * k) ++ take part (f k)
  front_more k zero few = let none : 8 * k + 0 ≡ 8 * k = omega arith in ap front none ∙ sym (append-nil (front (8 * k)))
  front_more k (suc part) few =
      let eights : List ℕ = flat_map f (range_with_len 0 k) in
      let count : words_for (8 * k + suc part) ≡ suc k = omega (arith, few) in
      let all : length eights ≡ 8 * k = length_eights 0 k in
      ap (λ (m : ℕ). take (8 * k + suc part) (flat_map f (range_with_len 0 m))) count
      ∙ ap (take (8 * k + suc part)) (eights_more k)
      ∙ ap (λ (m : ℕ). take (m + suc part) (eights ++ f k)) (sym all)
      ∙ take-append-add eights (f k) (suc part)
      ∙ ap (λ (xs : List ℕ). xs ++ take (suc part) (f k)) (sym (front_eights k))

  front_fits : ((k i : ℕ) → get_or (f k) i 0 < 256) → (n i : ℕ) → get_or (front n) i 0 < 256
  front_fits fits n = fits_take n (flat_map f (range_with_len 0 (words_for n))) (all 0 (words_for n)) where
    all : (a m i : ℕ) → get_or (flat_map f (range_with_len a m)) i 0 < 256
    all a zero i = omega arith
    all a (suc m) i = fits_append (f a) (flat_map f (range_with_len (a + 1) m)) (fits a) (all (a + 1) m) i

-- ---- the text

-- the text is as long as it says
pub text_length : (R : Region) (a n : ℕ) → length (text_at R a n) ≡ n
unfolding text_at
text_length R a n = front_length (λ k. low_bytes 8 (word R (a + 8 * k))) (λ k. length-low_bytes 8 (word R (a + 8 * k))) n

-- a text of 1 to 255 bytes is a name
pub text_is_name : (R : Region) (a n : ℕ) → 0 < n → n ≤ 255 → IsName (text_at R a n)
unfolding text_at
text_is_name R a n some fits =
    let len : length (text_at R a n) ≡ n = text_length R a n in
    record {
      some = rw len some;
      fits = rw len fits;
      bytes = front_fits (λ k. low_bytes 8 (word R (a + 8 * k))) (λ k. length-low_bytes 8 (word R (a + 8 * k))) (λ k i. low_bytes_fit 8 (word R (a + 8 * k)) i) n;
    }

-- a part of one word more
text_add : (R : Region) (a k part : ℕ) → part ≤ 8 → text_at R a (8 * k + part) ≡ text_at R a (8 * k) ++ low_bytes part (word R (a + 8 * k))
unfolding text_at
text_add R a k part few =
    front_more (λ j. low_bytes 8 (word R (a + 8 * j))) (λ j. length-low_bytes 8 (word R (a + 8 * j))) k part few
    ∙ ap (λ (xs : List ℕ). text_at R a (8 * k) ++ xs) (low_front part 8 (word R (a + 8 * k)) few)

-- no word yet
pub text_none : (R : Region) (a n : ℕ) (items : List ℕ) → items ≡ [] → items ≡ text_at R a (min (8 * 0) n)
unfolding text_at
text_none R a n items none = none ∙ (let few : 0 ≡ min (8 * 0) n = omega arith in ap (text_at R a) few)

-- one word more of a text, of which there is as much as it has
pub text_next : (R : Region) (a n k part w : ℕ) (items new : List ℕ) → 8 * k < n → items ≡ text_at R a (min (8 * k) n) → part ≡ min (n - 8 * k) 8 → w ≡ word R (a + 8 * k) → new ≡ items ++ low_bytes part w → new ≡ text_at R a (min (8 * (k + 1)) n)
text_next R a n k part w items new inside is_text is_part is_word is_new =
    let few : part ≤ 8 = omega arith in
    is_new ∙ ap (λ (xs : List ℕ). xs ++ low_bytes part w) (is_text ∙ ap (text_at R a) (omega arith)) ∙ ap (λ (v : ℕ). text_at R a (8 * k) ++ low_bytes part v) is_word
    ∙ sym (text_add R a k part few) ∙ ap (text_at R a) (omega arith)

-- all words make the text
pub text_whole : (R : Region) (a n k : ℕ) (items : List ℕ) → k ≡ words_for n → items ≡ text_at R a (min (8 * k) n) → items ≡ text_at R a n
text_whole R a n k items e h = h ∙ ap (text_at R a) (omega arith)

-- a word more stands there, if it has no byte above those of the text
pub text_next_stands : (R : Region) (a n k part w : ℕ) → 8 * k < n → part ≡ min (n - 8 * k) 8 → w ≡ word R (a + 8 * k) → high_part part w ≡ 0
    → TextBelow R a (text_at R a (min (8 * k) n)) k → TextBelow R a (text_at R a (min (8 * (k + 1)) n)) (k + 1)
text_next_stands R a n k part w inside is_part is_word none below =
    let old : List ℕ = text_at R a (min (8 * k) n) in
    let len : length old ≡ 8 * k = text_length R a (min (8 * k) n) ∙ omega arith in
    let few : part ≤ 8 = omega arith in
    text_more R a k w part old (text_at R a (min (8 * (k + 1)) n)) len few is_word (sym (text_next R a n k part w old (old ++ low_bytes part w) inside refl is_part is_word refl)) none below

-- where all words stand, the text does
pub text_stands : (R : Region) (a n k : ℕ) → k ≡ words_for n → TextBelow R a (text_at R a (min (8 * k) n)) k → IsTextAt R a (text_at R a n)
text_stands R a n k e below = λ j h.
    let len : length (text_at R a n) ≡ n = text_length R a n in
    let early : j < k = omega (arith, len, h) in
    let same : min (8 * k) n ≡ n = omega arith in
    let P : ℕ → Type 0 = λ m. TextBelow R a (text_at R a m) k in subst P same below j early

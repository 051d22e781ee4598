-- The words of a front that was copied, and of the bytes behind it.
use Rattle.std.proofs.Common.{◌⊎◌, inl, inr, ◌≡◌, ◌+◌, ◌*◌, ◌/◌, ◌%◌, ◌<◌, ◌≤◌, ℕ, List, [], ◌∷◌, ◌++◌, length, get_or, set, take, drop, sym, ap, ◌∙◌, arith, append_assoc, length-append, length-drop, length-set, get_or-set_same, get_or-set_other, add-one, append-nil, max, Bool, true, false, not, ◌&&◌, nat_le}
use Rattle.std.proofs.Math.Seq.{take-suc}
use Rattle.std.proofs.lemmas.Bool.{cases_eq, cases_lt}
use Rattle.std.proofs.lemmas.Bool.Decides.{nat_tests}
use Rattle.std.proofs.lemmas.List.{places, get_or_append_left, take-append-drop, drop-append-le, length-take, drop_all, set-append_left}
use Rattle.byteorder.specs.Endian.{little_number}
use Rattle.nv_region.specs.Region.{Region, size, word, region_of, words_of, rest_of}
use Rattle.nv_region.specs.ImageState.{with_front}
use Rattle.nv_region.proofs.Bytes.{size_of_bytes, word_of_bytes}

pub short_rest : (bytes : List ℕ) → length (rest_of bytes) < 8
short_rest (a ∷ b ∷ c ∷ d ∷ e ∷ f ∷ g ∷ h ∷ rest) = short_rest rest
short_rest [] = omega arith
short_rest (a ∷ []) = omega arith
short_rest (a ∷ b ∷ []) = omega arith
short_rest (a ∷ b ∷ c ∷ []) = omega arith
short_rest (a ∷ b ∷ c ∷ d ∷ []) = omega arith
short_rest (a ∷ b ∷ c ∷ d ∷ e ∷ []) = omega arith
short_rest (a ∷ b ∷ c ∷ d ∷ e ∷ f ∷ []) = omega arith
short_rest (a ∷ b ∷ c ∷ d ∷ e ∷ f ∷ g ∷ []) = omega arith

pub count_of_words : (bytes : List ℕ) → length (words_of bytes) ≡ length bytes / 8
count_of_words bytes = omega (arith, size_of_bytes bytes, short_rest bytes)

-- a front within the bytes is one within the words
pub front_within : (front bytes : List ℕ) → 8 * length front ≤ length bytes → length front ≤ length (words_of bytes)
front_within front bytes within = omega (arith, count_of_words bytes)

-- a front leaves as many words
pub as_long_fronted : (front : List ℕ) (R : Region) → length front ≤ length R.words → length (with_front front R).words ≡ length R.words
as_long_fronted front R within = omega (arith, length-append front (drop (length front) R.words), length-drop (length front) R.words)

pub size_fronted : (front bytes : List ℕ) → 8 * length front ≤ length bytes → size (with_front front (region_of bytes)) ≡ length bytes
size_fronted front bytes within =
    omega (arith, size_of_bytes bytes, as_long_fronted front (region_of bytes) (front_within front bytes within))

pub word_in_front : (front : List ℕ) (R : Region) (i : ℕ) → i < length front → get_or (with_front front R).words i 0 ≡ get_or front i 0
word_in_front front R i inside = get_or_append_left front (drop (length front) R.words) 0 i inside

pub word_behind_front : (front : List ℕ) (R : Region) (i : ℕ) → length front ≤ i → get_or (with_front front R).words i 0 ≡ get_or R.words i 0
word_behind_front front R i behind = grind (arith, places)

-- behind the front a word is the number of the eight bytes there
pub bytes_behind_front : (front bytes : List ℕ) (at : ℕ) → at % 8 ≡ 0 → at + 8 ≤ length bytes → length front ≤ at / 8 → word (with_front front (region_of bytes)) at ≡ little_number 8 (drop at bytes)
bytes_behind_front front bytes at aligned within behind = word_behind_front front (region_of bytes) (at / 8) behind ∙ word_of_bytes bytes at aligned within

-- a store into the front
pub set_in_front : (front : List ℕ) (R : Region) (i value : ℕ) → i < length front → with_front (set front i value) R ≡ record R { words = set (with_front front R).words i value }
set_in_front front R i value inside =
    λ k. record { words = (ap (λ (n : ℕ). set front i value ++ drop n R.words) (length-set front i value) ∙ sym (set-append_left front (drop (length front) R.words) i value inside)) k; rest = R.rest }

-- what a word may be after a store that is there at once
pub stored_or_before : (words : List ℕ) (k value i x : ℕ) → k < length words → x ≡ get_or (set words k value) i 0 → (x ≡ get_or words i 0) ⊎ ((i ≡ k) × (x ≡ value))
stored_or_before words k value i x inside is = elim (cases_eq i k) [
  | inl here ↦ inr (here, is ∙ ap (λ (n : ℕ). get_or (set words k value) n 0) here ∙ get_or-set_same words k value 0 inside)
  | inr other ↦ inl (is ∙ get_or-set_other words k i value 0 other)
]

-- so many are there already
pub none_added : (front : List ℕ) (count : ℕ) (words : List ℕ) → count ≤ length front → front ++ drop (length front) (take count words) ≡ front
none_added front count words there = ap (λ (l : List ℕ). front ++ l) (drop_all (length front) (take count words) (omega (arith, length-take count words, there))) ∙ append-nil front

-- one word more is copied
pub word_added : (front words copied : List ℕ) (k x : ℕ) → length front ≤ k → k < length words → x ≡ get_or words k 0 → copied ≡ front ++ drop (length front) (take k words) → copied ++ x ∷ [] ≡ front ++ drop (length front) (take (k + 1) words)
word_added front words copied k x behind within is so_far =
    let n : ℕ = length front in
    let more : drop n (take (k + 1) words) ≡ drop n (take k words) ++ (get_or words k 0 ∷ []) =
    ap (λ (m : ℕ). drop n (take m words)) (add-one k) ∙ ap (drop n) (take-suc words k 0 within) ∙ drop-append-le n (take k words) (get_or words k 0 ∷ []) (omega (arith, length-take k words)) in
    ap (λ (l : List ℕ). l ++ x ∷ []) so_far ∙ append_assoc front (drop n (take k words)) (x ∷ []) ∙ ap (λ (y : ℕ). front ++ (drop n (take k words) ++ y ∷ [])) is ∙ sym (ap (λ (l : List ℕ). front ++ l) more)

-- so many are copied
pub length_added : (front words : List ℕ) (count : ℕ) → length front ≤ count → count ≤ length words → length (front ++ drop (length front) (take count words)) ≡ count
length_added front words count more within =
    omega (arith, length-append front (drop (length front) (take count words)), length-drop (length front) (take count words), length-take count words)

-- with more words in the front the region is the same
pub same_fronted : (front : List ℕ) (count : ℕ) (R : Region) → length front ≤ count → count ≤ length R.words → with_front (front ++ drop (length front) (take count R.words)) R ≡ with_front front R
same_fronted front count R more within =
    let n : ℕ = length front in
    let taken : List ℕ = drop n (take count R.words) in
    let behind : drop (length (front ++ taken)) R.words ≡ drop count R.words = ap (λ (m : ℕ). drop m R.words) (length_added front R.words count more within) in
    let seam : taken ++ drop count R.words ≡ drop n R.words =
    sym (drop-append-le n (take count R.words) (drop count R.words) (omega (arith, length-take count R.words))) ∙ ap (drop n) (take-append-drop count R.words) in
    let words : (front ++ taken) ++ drop (length (front ++ taken)) R.words ≡ front ++ drop n R.words =
    ap (λ (l : List ℕ). (front ++ taken) ++ l) behind ∙ append_assoc front taken (drop count R.words) ∙ ap (λ (l : List ℕ). front ++ l) seam in
    λ k. record { words = words k; rest = R.rest }

-- and also where so many are there already
pub still_fronted : (front : List ℕ) (count : ℕ) (R : Region) → count ≤ length R.words → with_front (front ++ drop (length front) (take count R.words)) R ≡ with_front front R
still_fronted front count R within = elim (cases_lt (length front) count) [
  | inl more ↦ same_fronted front count R (omega (arith, more)) within
  | inr there ↦ ap (λ (l : List ℕ). with_front l R) (none_added front count R.words there)
]

-- So many words are copied of those that take stores: as many as were there before, or so many as are asked for.
pub reached : (front new bytes : List ℕ) (count limit : ℕ) → new ≡ front ++ drop (length front) (take count (words_of bytes)) → count ≤ limit → 8 * limit ≤ length bytes → length new ≡ max (length front) count
reached front new bytes count limit copied few within = ap length copied ∙ elim (cases_lt (length front) count) [
  | inl more ↦ length_added front (words_of bytes) count (omega (arith, more)) (omega (arith, count_of_words bytes)) ∙ omega (arith, more)
  | inr there ↦ ap length (none_added front count (words_of bytes) there) ∙ omega (arith, there)
]

-- a copy ends with so many words, or with those that are there
pub copied_to : (n k count : ℕ) (words : List ℕ) → n ≤ k → count ≤ k → k ≤ max n count → drop n (take k words) ≡ drop n (take count words)
copied_to n k count words from past most = elim (cases_eq k count) [
  | inl same ↦ ap (λ (m : ℕ). drop n (take m words)) same
  | inr other ↦ drop_all n (take k words) (omega (arith, length-take k words, from, past, most, other)) ∙ sym (drop_all n (take count words) (omega (arith, length-take count words, from, past, most, other)))
]

pub opens : (limit front : ℕ) (burnt : Bool) → limit ≤ front → burnt ≡ false → (nat_le limit front && not burnt) ≡ true
opens limit front burnt low fresh = grind (arith, nat_tests)

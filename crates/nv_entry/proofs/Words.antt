-- Laws of words and of the numbers of bytes.
use Rattle.std.proofs.Common.{◌≡◌, ℕ, zero, suc, ◌+◌, ◌-◌, ◌*◌, ◌/◌, ◌%◌, ◌^◌, ◌<◌, ◌≤◌, List, [], ◌∷◌, ◌++◌, length, take, drop, get_or, refl, ap, sym, ◌∙◌, arith, append_assoc, length-drop, length-take, add-one, min, below_more}
use Rattle.std.proofs.Math.Nat.{pow-succ', mul-le-mul_left}
use Rattle.std.proofs.lemmas.List.{take-append-le, drop-append-le, take_all}
use Rattle.std.proofs.lemmas.Nat.{shr-shr}
use Rattle.std.proofs.Math.Seq.{drop-append_seam}
use Rattle.std.proofs.lemmas.Slice.{between_is}
use Rattle.byteorder.specs.Endian.{little_number}
use Rattle.byteorder.specs.Numbers.{little_from-cons, little_from-take}
use Rattle.nv_entry.specs.Digits.{low_bytes, high_part}
use Rattle.nv_region.specs.Region.{Region, word}
use Rattle.nv_entry.specs.Text.{number_of, text_word}
use Rattle.nv_entry.specs.Spelling.{IsTextAt}
use Rattle.nv_entry.specs.Name.{IsName}

-- bytes below 256 make a number below a power of 256
pub number_of_below : (xs : List ℕ) → ((i : ℕ) → get_or xs i 0 < 256) → number_of xs < 256 ^ length xs
number_of_below [] fits = omega arith
number_of_below (x ∷ xs) fits =
    let e = pow-succ' 256 (length xs) in
    let here : x < 256 = fits 0 in
    let rest : number_of xs < 256 ^ length xs = number_of_below xs (λ i. fits (suc i)) in
    rw e (omega arith)

pub length-low_bytes : (k n : ℕ) → length (low_bytes k n) ≡ k
length-low_bytes zero n = refl
length-low_bytes (suc k) n = ap suc (length-low_bytes k (n / 256))

pub high_part-suc : (k n : ℕ) → high_part (suc k) n ≡ high_part k n / 256
high_part-suc zero n = refl
high_part-suc (suc k) n = high_part-suc k (n / 256)

pub low_bytes-suc : (k n : ℕ) → low_bytes (suc k) n ≡ low_bytes k n ++ (high_part k n % 256) ∷ []
low_bytes-suc zero n = refl
low_bytes-suc (suc k) n = ap (λ (xs : List ℕ). (n % 256) ∷ xs) (low_bytes-suc k (n / 256))

pub low_and_high : (k n : ℕ) → number_of (low_bytes k n) + 256 ^ k * high_part k n ≡ n
low_and_high zero n = omega arith
low_and_high (suc k) n =
    let e = pow-succ' 256 k in
    let ih : number_of (low_bytes k (n / 256)) + 256 ^ k * high_part k (n / 256) ≡ n / 256 = low_and_high k (n / 256) in
    rw e (omega arith)

pub low_bytes_fit : (k n i : ℕ) → get_or (low_bytes k n) i 0 < 256
low_bytes_fit zero n i = omega arith
low_bytes_fit (suc k) n zero = omega arith
low_bytes_fit (suc k) n (suc i) = low_bytes_fit k (n / 256) i

pub word-append_left : (xs ys : List ℕ) (a : ℕ) → a + 8 ≤ length xs → text_word (xs ++ ys) a ≡ text_word xs a
unfolding text_word
word-append_left xs ys a h =
    let low : a ≤ length xs = omega arith in
    let there : 8 ≤ length (drop a xs) = omega (arith, length-drop a xs) in
    ap number_of (ap (take 8) (drop-append-le a xs ys low) ∙ take-append-le 8 (drop a xs) ys there)

pub word-append_right : (xs ys : List ℕ) (a : ℕ) → a ≡ length xs → length ys ≤ 8 → text_word (xs ++ ys) a ≡ number_of ys
unfolding text_word
word-append_right xs ys a e h =
    rw e (ap number_of (ap (take 8) (drop-append_seam xs ys) ∙ take_all 8 ys h))

-- one byte more
pub low_bytes-add : (k n : ℕ) → low_bytes (k + 1) n ≡ low_bytes k n ++ (high_part k n % 256) ∷ []
low_bytes-add k n = rw add-one (low_bytes-suc k n)

pub high_part-add : (k n : ℕ) → high_part (k + 1) n ≡ high_part k n / 256
high_part-add k n = rw add-one (high_part-suc k n)

pub pushed_more : (old items new : List ℕ) (k n rest : ℕ) → items ≡ old ++ low_bytes k n → rest ≡ high_part k n → new ≡ items ++ (rest % 256) ∷ [] → new ≡ old ++ low_bytes (k + 1) n
pushed_more old items new k n rest e f h =
    h ∙ ap (λ (xs : List ℕ). xs ++ (rest % 256) ∷ []) e ∙ append_assoc old (low_bytes k n) ((rest % 256) ∷ [])
    ∙ ap (λ (xs : List ℕ). old ++ xs) (ap (λ (r : ℕ). low_bytes k n ++ (r % 256) ∷ []) f ∙ sym (low_bytes-add k n))

pub fits_take : (n : ℕ) (xs : List ℕ) → ((i : ℕ) → get_or xs i 0 < 256) → (i : ℕ) → get_or (take n xs) i 0 < 256
fits_take zero xs fits i = omega arith
fits_take (suc n) [] fits i = omega arith
fits_take (suc n) (x ∷ xs) fits zero = fits 0
fits_take (suc n) (x ∷ xs) fits (suc i) = fits_take n xs (λ j. fits (suc j)) i

pub fits_drop : (n : ℕ) (xs : List ℕ) → ((i : ℕ) → get_or xs i 0 < 256) → (i : ℕ) → get_or (drop n xs) i 0 < 256
fits_drop zero xs fits i = fits i
fits_drop (suc n) [] fits i = omega arith
fits_drop (suc n) (x ∷ xs) fits i = fits_drop n xs (λ j. fits (suc j)) i

pub fits_append : (xs ys : List ℕ) → ((i : ℕ) → get_or xs i 0 < 256) → ((i : ℕ) → get_or ys i 0 < 256) → (i : ℕ) → get_or (xs ++ ys) i 0 < 256
fits_append [] ys f g i = g i
fits_append (x ∷ xs) ys f g zero = f 0
fits_append (x ∷ xs) ys f g (suc i) = fits_append xs ys (λ j. f (suc j)) g i

-- a name with a word above its bytes isn't there
pub name_refused : (R : Region) (at k w part : ℕ) (name : List ℕ) → IsTextAt R at name → IsName name → 8 * k < length name → w ≡ word R (at + 8 * k) → part ≡ min (length name - 8 * k) 8 → 0 < high_part part w → ⊥
unfolding text_word
name_refused R at k w part name text is k_in e f high =
    let piece = take 8 (drop (8 * k) name) in
    let len : length piece ≡ part = simp (length-take, length-drop) (omega arith) in
    let below : number_of piece < 256 ^ length piece = number_of_below piece (fits_take 8 (drop (8 * k) name) (fits_drop (8 * k) name is.bytes)) in
    let sum : number_of (low_bytes part w) + 256 ^ part * high_part part w ≡ w = low_and_high part w in
    let one : 256 ^ part * 1 ≤ 256 ^ part * high_part part w = mul-le-mul_left (256 ^ part) high in
    let is_w : w ≡ number_of piece = e ∙ text k k_in in
    let below' : number_of piece < 256 ^ part = rw len at below in
    omega arith

-- the words of the bytes so far stand there
abbrev pub TextBelow : Region → ℕ → List ℕ → ℕ → Type 0
TextBelow R at items k = (j : ℕ) → j < k → word R (at + 8 * j) ≡ text_word items (8 * j)

-- one word more
pub text_more : (R : Region) (at k w part : ℕ) (items new : List ℕ) → length items ≡ 8 * k → part ≤ 8 → w ≡ word R (at + 8 * k) → new ≡ items ++ low_bytes part w → high_part part w ≡ 0 → TextBelow R at items k → TextBelow R at new (k + 1)
text_more R at k w part items new len few e is_new none below = rw is_new (below_more _ _ earlier here)
  where
    earlier : (j : ℕ) → j < k → word R (at + 8 * j) ≡ text_word (items ++ low_bytes part w) (8 * j)
    earlier j h = below j h ∙ sym (word-append_left items (low_bytes part w) (8 * j) (omega arith))

    here : word R (at + 8 * k) ≡ text_word (items ++ low_bytes part w) (8 * k)
    here =
        let few' : length (low_bytes part w) ≤ 8 = rw length-low_bytes few in
        let sum : number_of (low_bytes part w) + 256 ^ part * high_part part w ≡ w = low_and_high part w in
        let flat : 256 ^ part * high_part part w ≡ 0 = ap (λ (h : ℕ). 256 ^ part * h) none ∙ omega arith in
        sym e ∙ (let whole : w ≡ number_of (low_bytes part w) = omega arith in whole) ∙ sym (word-append_right items (low_bytes part w) (8 * k) (sym len) few')

-- ---- words of a text, as they are read

number_read : (n : ℕ) (xs : List ℕ) → n ≤ length xs → little_number n xs ≡ number_of (take n xs)
number_read zero xs inside = refl
number_read (suc n) [] inside = absurd (omega (arith, inside))
number_read (suc n) (x ∷ xs) inside = ap (λ (r : ℕ). x + 256 * r) (little_from-cons 0 n x xs ∙ number_read n xs (omega (arith, inside)))

-- a whole word, from the first bytes
pub word_read : (name : List ℕ) (k m : ℕ) → 8 * k + 8 ≤ m → m ≤ length name → little_number 8 (drop (8 * k) (take m name)) ≡ text_word name (8 * k)
unfolding text_word
word_read name k m inside front =
    ap (little_number 8) (sym (between_is name (8 * k) m)) ∙ little_from-take 0 8 (m - 8 * k) (drop (8 * k) name) (omega arith)
    ∙ number_read 8 (drop (8 * k) name) (omega (arith, length-drop (8 * k) name))

-- the last word, from the bytes that are left
pub rest_read : (name rest : List ℕ) (k : ℕ) → length name ≤ 8 * k + 8 → rest ≡ take (length name - 8 * k) (drop (8 * k) name) → little_number (length rest) rest ≡ text_word name (8 * k)
unfolding text_word
rest_read name rest k last is =
    let few : length (drop (8 * k) name) ≤ 8 = simp length-drop (omega arith) in
    let all : rest ≡ drop (8 * k) name = is ∙ take_all (length name - 8 * k) (drop (8 * k) name) (simp length-drop (omega arith)) in
    number_read (length rest) rest (omega arith) ∙ ap number_of (take_all (length rest) rest (omega arith) ∙ all ∙ sym (take_all 8 (drop (8 * k) name) few))

-- what k bytes leave of a number is what a shift by their bits leaves
pub high_part_shifted : (k n : ℕ) → high_part k n ≡ n / 2 ^ (8 * k)
high_part_shifted zero n = omega arith
high_part_shifted (suc k) n = high_part_shifted k (n / 256) ∙ shr-shr n 8 (8 * k) ∙ ap (λ (m : ℕ). n / 2 ^ m) (omega arith)

-- The bytes of words.
use Rattle.std.proofs.Common.{◌≡◌, inl, inr, ℕ, zero, suc, ◌+◌, ◌*◌, ◌/◌, ◌%◌, ◌<◌, ◌≤◌, List, [], ◌∷◌, ◌++◌, length, take, drop, map, get_or, set, refl, sym, ap, ◌∙◌, subst, arith, length-take, length-drop, length-set}
use Rattle.std.specs.Prelude.{replicate}
use Rattle.std.specs.List.{flat_map, range_with_len}
use Rattle.std.specs.Int.{to_le_bytes, from_le_bytes, byte_at, bytes_low_first, w64}
use Rattle.std.proofs.lemmas.List.{ext_get_or, get_or-take, get_or-drop, get_or-set_same, get_or-set_other, get_or_past}
use Rattle.std.proofs.lemmas.Bool.{cases_lt, cases_eq}
use Rattle.std.proofs.lemmas.List.FromFn.{get_or-map-range_with_len, length-map-range_with_len}
use Rattle.std.proofs.lemmas.Nat.{le_bytes_8}
use Rattle.byteorder.specs.Endian.{little_number, little_bytes, IsRead}
use Rattle.byteorder.specs.Numbers.{little_from-take}
use Rattle.nv_super.proofs.Ranges.{range_more}
use Rattle.nv_bytes.specs.Bytes.{byte_of_word}

-- the bytes of a word, one by one
pub byte_there : (w k : ℕ) → k < 8 → get_or (to_le_bytes w64 w) k 0 ≡ byte_of_word w k
byte_there w zero few = omega arith
byte_there w (suc zero) few = refl
byte_there w (suc (suc zero)) few = refl
byte_there w (suc (suc (suc zero))) few = refl
byte_there w (suc (suc (suc (suc zero)))) few = refl
byte_there w (suc (suc (suc (suc (suc zero))))) few = refl
byte_there w (suc (suc (suc (suc (suc (suc zero)))))) few = refl
byte_there w (suc (suc (suc (suc (suc (suc (suc zero))))))) few = refl
byte_there w (suc (suc (suc (suc (suc (suc (suc (suc k)))))))) few = absurd (omega arith)

-- one byte many times is small bytes
pub small_same : (b n i : ℕ) → b < 256 → get_or (replicate n b) i 0 < 256
small_same b zero i low = omega arith
small_same b (suc n) zero low = low
small_same b (suc n) (suc i) low = small_same b n i low

-- the bytes of the word of eight bytes
pub byte_back : (bytes : List ℕ) (w k : ℕ) → length bytes ≡ 8 → ((i : ℕ) → get_or bytes i 0 < 256) → w ≡ from_le_bytes w64 bytes → k < 8 → byte_of_word w k ≡ get_or bytes k 0
byte_back bytes w k eight small is few = sym (byte_there w k few) ∙ ap (λ (l : List ℕ). get_or l k 0) (le_bytes_8 bytes w eight small is)

fits_take : (n : ℕ) (xs : List ℕ) (i : ℕ) → ((i : ℕ) → get_or xs i 0 < 256) → get_or (take n xs) i 0 < 256
fits_take zero xs i small = omega arith
fits_take (suc n) [] i small = omega arith
fits_take (suc n) (x ∷ xs) zero small = small 0
fits_take (suc n) (x ∷ xs) (suc i) small = fits_take n xs i (λ j. small (suc j))

-- the same where more bytes follow
pub byte_read : (bytes : List ℕ) (w k : ℕ) → 8 ≤ length bytes → ((i : ℕ) → get_or bytes i 0 < 256) → w ≡ little_number 8 bytes → k < 8 → byte_of_word w k ≡ get_or bytes k 0
byte_read bytes w k long small is few =
    byte_back (take 8 bytes) w k (simp length-take (omega arith)) fits (is ∙ sym (little_from-take 0 8 8 bytes (omega arith)) ∙ read) few ∙ get_or-take 8 bytes k 0 few
  where
    read : little_number 8 (take 8 bytes) ≡ from_le_bytes w64 (take 8 bytes)
    read = omega arith

    fits : (i : ℕ) → get_or (take 8 bytes) i 0 < 256
    fits i = fits_take 8 bytes i small

-- the bytes of words that are read from a row of bytes
pub byte_of_row : (bytes words : List ℕ) (j k : ℕ) → length bytes ≡ 8 * length words → ((i : ℕ) → get_or bytes i 0 < 256) → IsRead little_number 8 bytes words → j < length words → k < 8
    → byte_of_word (get_or words j 0) k ≡ get_or bytes (8 * j + k) 0
byte_of_row bytes words j k long small read low few =
    byte_read (drop (8 * j) bytes) (get_or words j 0) k (simp length-drop (omega arith))
    (λ i. subst (λ (b : ℕ). b < 256) (sym (get_or-drop (8 * j) bytes i 0)) (small (8 * j + i))) (read j (omega arith)) few
    ∙ get_or-drop (8 * j) bytes k 0

-- some bytes of a word
pub part_of_word : (f : ℕ → ℕ) (w at n : ℕ) (bytes : List ℕ) → bytes ≡ to_le_bytes w64 w → at % 8 + n ≤ 8 → ((y : ℕ) → y / 8 ≡ at / 8 → byte_of_word w (y % 8) ≡ f y) → take n (drop (at % 8) bytes) ≡ map f (range_with_len at n)
part_of_word f w at n bytes is few each =
    ap (λ (l : List ℕ). take n (drop (at % 8) l)) is ∙
    ext_get_or 0 _ _ (long ∙ sym (length-map-range_with_len f at n)) (λ i within.
    let inside : i < n = subst (λ (m : ℕ). i < m) long within in
    let place : (at + i) % 8 ≡ at % 8 + i = omega arith in
    get_or-take n (drop (at % 8) (to_le_bytes w64 w)) i 0 inside
    ∙ get_or-drop (at % 8) (to_le_bytes w64 w) i 0
    ∙ byte_there w (at % 8 + i) (omega arith)
    ∙ ap (byte_of_word w) (sym place)
    ∙ each (at + i) (omega arith)
    ∙ sym (get_or-map-range_with_len f at n i (at + i) 0 inside refl))
  where
    long : length (take n (drop (at % 8) (to_le_bytes w64 w))) ≡ n
    long = let eight : length (to_le_bytes w64 w) ≡ 8 = refl in simp (length-take, length-drop) (omega arith)

-- each byte of a word is small
pub bytes_small : (w i : ℕ) → get_or (to_le_bytes w64 w) i 0 < 256
bytes_small w i = elim (cases_lt i 8) [
  | inl few ↦ subst (λ (b : ℕ). b < 256) (sym (byte_there w i few)) (omega arith)
  | inr many ↦ subst (λ (b : ℕ). b < 256) (sym (get_or_past (to_le_bytes w64 w) i 0 many)) (omega arith)
]

byte_is : (w i : ℕ) → byte_at i w ≡ byte_of_word w i
byte_is w zero = omega arith
byte_is w (suc i) = refl

-- the low bytes of a word, from one on
bytes_from : (f : ℕ → ℕ) (w i n x : ℕ) → ((k : ℕ) → k < n → byte_of_word w (i + k) ≡ f (x + k)) → bytes_low_first i n w ≡ map f (range_with_len x n)
bytes_from f w i zero x each = refl
bytes_from f w i (suc n) x each =
    let first : byte_at i w ≡ f x = byte_is w i ∙ ap (byte_of_word w) (let e : i ≡ i + 0 = omega arith in e) ∙ each 0 (omega arith) ∙ ap f (let e : x + 0 ≡ x = omega arith in e) in
    let rest = bytes_from f w (suc i) n (x + 1) (λ k low. ap (byte_of_word w) (let e : suc i + k ≡ i + suc k = omega arith in e) ∙ each (suc k) (omega (arith, low)) ∙ ap f (let e : x + suc k ≡ x + 1 + k = omega arith in e)) in
    ap (λ (b : ℕ). b ∷ bytes_low_first (suc i) n w) first ∙ ap (λ (l : List ℕ). f x ∷ l) rest

-- the bytes of words in a row
pub bytes_in_row : (f : ℕ → ℕ) (words : List ℕ) (x : ℕ) → ((j k : ℕ) → j < length words → k < 8 → byte_of_word (get_or words j 0) k ≡ f (x + 8 * j + k)) → flat_map (little_bytes 8) words ≡ map f (range_with_len x (8 * length words))
bytes_in_row f [] x each = ap (λ (n : ℕ). map f (range_with_len x n)) (let e : 0 ≡ 8 * 0 = omega arith in e)
bytes_in_row f (w ∷ ws) x each =
    let first : little_bytes 8 w ≡ map f (range_with_len x 8) = bytes_from f w 0 8 x (λ k few. ap (byte_of_word w) (let e : 0 + k ≡ k = omega arith in e) ∙ each 0 k (omega arith) few ∙ ap f (let e : x + 8 * 0 + k ≡ x + k = omega arith in e)) in
    let rest = bytes_in_row f ws (x + 8) (λ j k low few. each (suc j) k (omega (arith, low)) few ∙ ap f (let e : x + 8 * suc j + k ≡ x + 8 + 8 * j + k = omega arith in e)) in
    ap (λ (l : List ℕ). l ++ flat_map (little_bytes 8) ws) first ∙ ap (λ (l : List ℕ). map f (range_with_len x 8) ++ l) rest ∙ range_more f x 8 (8 * length ws)
    ∙ ap (λ (n : ℕ). map f (range_with_len x n)) (let e : 8 + 8 * length ws ≡ 8 * suc (length ws) = omega arith in e)

-- ---- a word whose bytes are made anew, one by one

-- Of eight bytes, those before place k are new, and the others are old.
pub record AreMade (new old : ℕ → ℕ) (k : ℕ) (bytes : List ℕ) : Type 0 where
  pub eight : length bytes ≡ 8
  pub small : (i : ℕ) → get_or bytes i 0 < 256
  pub made : (j : ℕ) → j < k → get_or bytes j 0 ≡ new j
  pub left : (j : ℕ) → k ≤ j → j < 8 → get_or bytes j 0 ≡ old j

pub none_made : (new : ℕ → ℕ) (w : ℕ) (bytes : List ℕ) → bytes ≡ to_le_bytes w64 w → AreMade new (byte_of_word w) 0 bytes
none_made new w bytes is =
    subst (AreMade new (byte_of_word w) 0) (sym is) (record { eight = refl; small = bytes_small w; made = λ j below. absurd (omega arith); left = λ j low few. byte_there w j few })

pub one_made : (new old : ℕ → ℕ) (k b : ℕ) (bytes : List ℕ) → k < 8 → b < 256 → (get_or bytes k 0 ≡ old k → b ≡ new k) → AreMade new old k bytes → AreMade new old (k + 1) (set bytes k b)
one_made new old k b bytes few fits is m = record {
  eight = length-set bytes k b ∙ m.eight;
  small = λ i. elim (cases_eq i k) [
    | inl same ↦ subst (λ (x : ℕ). get_or (set bytes k b) x 0 < 256) (sym same) (subst (λ (x : ℕ). x < 256) (sym here) fits)
    | inr differ ↦ subst (λ (x : ℕ). x < 256) (sym (get_or-set_other bytes k i b 0 differ)) (m.small i)
  ];
  made = λ j below. elim (cases_eq j k) [
    | inl same ↦ subst (λ (x : ℕ). get_or (set bytes k b) x 0 ≡ new x) (sym same) (here ∙ is (m.left k (omega arith) few))
    | inr differ ↦ get_or-set_other bytes k j b 0 differ ∙ m.made j (omega (arith, below, differ))
  ];
  left = λ j low below. get_or-set_other bytes k j b 0 (λ e. absurd (omega (arith, e, low))) ∙ m.left j (omega arith) below;
}
  where
    here : get_or (set bytes k b) k 0 ≡ b
    here = get_or-set_same bytes k b 0 (omega (arith, few, m.eight))

pub all_made : (new old : ℕ → ℕ) (k w : ℕ) (bytes : List ℕ) → 8 ≤ k → AreMade new old k bytes → w ≡ from_le_bytes w64 bytes → (j : ℕ) → j < 8 → byte_of_word w j ≡ new j
all_made new old k w bytes done m is j few = byte_back bytes w j m.eight m.small is few ∙ m.made j (omega arith)

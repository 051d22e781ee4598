-- Bytes that are added to those of a region, and bytes of some of its words, which are written.
use Rattle.std.proofs.Common.{◌≡◌, ◌≤◌, ◌<◌, ◌*◌, ◌+◌, ℕ, zero, suc, List, [], ◌∷◌, ◌++◌, length, take, drop, get_or, Option, Some, None, refl, sym, ap, ◌∙◌, arith, append_assoc, append-nil, length-append, subst}
use Rattle.std.specs.List.{flat_map}
use Rattle.std.specs.Io.KnownBytes.{Appends}
use Rattle.std.proofs.lemmas.Grind.{flat_map-append}
use Rattle.std.proofs.lemmas.Nat.{le_bytes_8}
use Rattle.byteorder.specs.Endian.{little_number, little_bytes}
use Rattle.byteorder.specs.Numbers.{length-bytes_low_first}
use Rattle.std.proofs.lemmas.List.{take_all, nil_from_length}
use Rattle.std.proofs.Math.Seq.{take-append-add}
use Rattle.nv_region.specs.Region.{words_of, rest_of, size, region_of, bytes_of}
use Rattle.nv_region.proofs.Bytes.{size_of_bytes, words_of_more, rest_of_more, words_of_short, rest_of_short, bytes_back}

-- one word more is read of the bytes that are left
pub word_more : (words start left bytes more next : List ℕ) (x : ℕ) → 8 ≤ length left → x ≡ little_number 8 left → more ≡ words ++ x ∷ [] → next ≡ drop 8 left
    → (words ++ words_of left ≡ start ++ words_of bytes) × (rest_of left ≡ rest_of bytes)
    → (more ++ words_of next ≡ start ++ words_of bytes) × (rest_of next ≡ rest_of bytes)
word_more words start left bytes more next x long is pushed cut so_far = (
  ap (λ l. l ++ words_of next) pushed ∙ append_assoc words (x ∷ []) (words_of next) ∙ ap (λ l. words ++ l) (ap (λ (y : ℕ). y ∷ words_of next) is ∙ ap (λ l. little_number 8 left ∷ words_of l) cut ∙ sym (words_of_more left long)) ∙ so_far.0,
  ap rest_of cut ∙ sym (rest_of_more left long) ∙ so_far.1,
)

-- no word is left
pub words_end : (words start left bytes : List ℕ) → length left < 8 → words ++ words_of left ≡ start ++ words_of bytes → words ≡ start ++ words_of bytes
words_end words start left bytes short so_far = sym (append-nil words) ∙ ap (λ l. words ++ l) (sym (words_of_short left short)) ∙ so_far

-- but bytes behind the last one
pub rest_end : (rest more left bytes : List ℕ) → length left < 8 → more ≡ rest ++ left → rest_of left ≡ rest_of bytes → more ≡ rest ++ rest_of bytes
rest_end rest more left bytes short is same = is ∙ ap (λ l. rest ++ l) (sym (rest_of_short left short) ∙ same)

-- eight bytes are those of their number
pub word_back : (eight : List ℕ) (x : ℕ) → length eight ≡ 8 → ((i : ℕ) → get_or eight i 0 < 256) → x ≡ little_number 8 eight → little_bytes 8 x ≡ eight
word_back eight x long small is = ap (little_bytes 8) is ∙ le_bytes_8 eight (little_number 8 eight) long small (omega arith)

-- the bytes behind the words are made a word
pub word_filled : (words more rest eight first behind piece none : List ℕ) (x : ℕ) → eight ≡ rest ++ first
    → little_bytes 8 x ≡ eight → more ≡ words ++ x ∷ [] → none ≡ [] → first ++ behind ≡ piece
    → bytes_of (record { words = more; rest = none }) ++ behind ≡ bytes_of (record { words = words; rest = rest }) ++ piece
word_filled words more rest eight first behind piece none x whole is pushed empty parts =
    let front = flat_map (little_bytes 8) words in
    let added : flat_map (little_bytes 8) more ≡ front ++ eight =
    ap (flat_map (little_bytes 8)) pushed ∙ flat_map-append (little_bytes 8) words (x ∷ []) ∙ ap (λ l. front ++ l) (append-nil (little_bytes 8 x) ∙ is) in
    ap (λ l. (flat_map (little_bytes 8) more ++ l) ++ behind) empty ∙ ap (λ l. l ++ behind) (append-nil (flat_map (little_bytes 8) more) ∙ added ∙ ap (λ l. front ++ l) whole)
    ∙ append_assoc front (rest ++ first) behind ∙ ap (λ l. front ++ l) (append_assoc rest first behind ∙ ap (λ l. rest ++ l) parts) ∙ sym (append_assoc front rest piece)

-- words are added, and the bytes behind them
words_added : (words rest bytes : List ℕ) → rest ≡ [] → ((i : ℕ) → get_or bytes i 0 < 256)
    → bytes_of (record { words = words ++ words_of bytes; rest = rest ++ rest_of bytes }) ≡ bytes_of (record { words = words; rest = rest }) ++ bytes
words_added words rest bytes none small =
    let front = flat_map (little_bytes 8) words in
    let more = flat_map (little_bytes 8) (words_of bytes) in
    ap (λ l. flat_map (little_bytes 8) (words ++ words_of bytes) ++ (l ++ rest_of bytes)) none
    ∙ ap (λ l. l ++ rest_of bytes) (flat_map-append (little_bytes 8) words (words_of bytes))
    ∙ append_assoc front more (rest_of bytes)
    ∙ ap (λ l. front ++ l) (bytes_back bytes small)
    ∙ ap (λ l. l ++ bytes) (sym (append-nil front) ∙ ap (λ l. front ++ l) (sym none))

-- where there are none, nothing is
none_added : (words rest bytes : List ℕ) → bytes ≡ [] → bytes_of (record { words = words ++ words_of bytes; rest = rest ++ rest_of bytes }) ≡ bytes_of (record { words = words; rest = rest }) ++ bytes
none_added words rest bytes none =
    ap (λ l. bytes_of (record { words = words ++ words_of l; rest = rest ++ rest_of l })) none
    ∙ ap (λ l. flat_map (little_bytes 8) l ++ (rest ++ [])) (append-nil words) ∙ ap (λ l. flat_map (little_bytes 8) words ++ l) (append-nil rest)
    ∙ sym (append-nil (bytes_of (record { words = words; rest = rest }))) ∙ ap (λ l. bytes_of (record { words = words; rest = rest }) ++ l) (sym none)

pub piece_added : (words rest bytes more_words more_rest : List ℕ) → (0 < length bytes → rest ≡ []) → ((i : ℕ) → get_or bytes i 0 < 256)
    → more_words ≡ words ++ words_of bytes → more_rest ≡ rest ++ rest_of bytes
    → bytes_of (record { words = more_words; rest = more_rest }) ≡ bytes_of (record { words = words; rest = rest }) ++ bytes
piece_added words rest bytes more_words more_rest whole small is_words is_rest =
    (λ i. bytes_of (record { words = is_words i; rest = is_rest i })) ∙ either bytes whole small
  where
    either : (bytes : List ℕ) → (0 < length bytes → rest ≡ []) → ((i : ℕ) → get_or bytes i 0 < 256)
        → bytes_of (record { words = words ++ words_of bytes; rest = rest ++ rest_of bytes }) ≡ bytes_of (record { words = words; rest = rest }) ++ bytes
    either [] whole small = none_added words rest [] refl
    either (b ∷ bs) whole small = words_added words rest (b ∷ bs) (whole (omega arith)) small

-- the first words of a region have its first bytes
first_words : (words rest : List ℕ) (n : ℕ) → n ≤ length words → take (8 * n) (bytes_of (record { words = words; rest = rest })) ≡ flat_map (little_bytes 8) (take n words)
first_words words rest zero within = refl
first_words [] rest (suc n) within = absurd (omega arith)
first_words (w ∷ words) rest (suc n) within =
    let further : List ℕ = bytes_of (record { words = words; rest = rest }) in
    let count : 8 * suc n ≡ length (little_bytes 8 w) + 8 * n = omega (arith, length-bytes_low_first 0 8 w) in
    ap (take (8 * suc n)) (append_assoc (little_bytes 8 w) (flat_map (little_bytes 8) words) rest)
    ∙ ap (λ (k : ℕ). take k (little_bytes 8 w ++ further)) count ∙ take-append-add (little_bytes 8 w) further (8 * n)
    ∙ ap (λ l. little_bytes 8 w ++ l) (first_words words rest n (omega arith))

-- which are all where there are no more words
pub first_of : (words rest bytes start : List ℕ) (n : ℕ) → n ≤ length words → start ≡ [] → bytes ≡ start ++ flat_map (little_bytes 8) (take n words) → bytes ≡ take (8 * n) (bytes_of (record { words = words; rest = rest }))
first_of words rest bytes start n within none is = is ∙ ap (λ l. l ++ flat_map (little_bytes 8) (take n words)) none ∙ sym (first_words words rest n within)

pub all_of : (words rest bytes start more : List ℕ) (n : ℕ) → length words < n → length rest < 8 → start ≡ [] → more ≡ start ++ flat_map (little_bytes 8) words → bytes ≡ more ++ rest → bytes ≡ take (8 * n) (bytes_of (record { words = words; rest = rest }))
all_of words rest bytes start more n past short none front is =
    is ∙ ap (λ l. l ++ rest) (front ∙ ap (λ l. l ++ flat_map (little_bytes 8) words) none)
    ∙ sym (take_all (8 * n) (bytes_of (record { words = words; rest = rest })) (omega (arith, past, short, length-append (flat_map (little_bytes 8) words) rest, flat_length words)))
  where
    flat_length : (words : List ℕ) → length (flat_map (little_bytes 8) words) ≡ 8 * length words
    flat_length [] = refl
    flat_length (w ∷ words) = omega (arith, length-append (little_bytes 8 w) (flat_map (little_bytes 8) words), length-bytes_low_first 0 8 w, flat_length words)

-- the region of the bytes that words and those behind them have
pub region_again : (words rest w r bytes : List ℕ) → w ≡ words → r ≡ rest → region_of (bytes_of (record { words = w; rest = r })) ≡ record { words = w; rest = r } → bytes_of (record { words = words; rest = rest }) ≡ bytes
    → record { words = words; rest = rest } ≡ region_of bytes
region_again words rest w r bytes of_words of_rest back has =
    sym (λ i. record { words = of_words i; rest = of_rest i }) ∙ sym back ∙ (λ i. region_of (bytes_of (record { words = of_words i; rest = of_rest i }))) ∙ ap region_of has

-- and its size is how many they are
pub size_again : (words rest w r bytes : List ℕ) → w ≡ words → r ≡ rest → region_of (bytes_of (record { words = w; rest = r })) ≡ record { words = w; rest = r } → bytes_of (record { words = words; rest = rest }) ≡ bytes
    → size (record { words = w; rest = r }) ≡ length bytes
size_again words rest w r bytes of_words of_rest back has =
    (λ i. size (record { words = of_words i; rest = of_rest i })) ∙ ap size (region_again words rest w r bytes of_words of_rest back has) ∙ size_of_bytes bytes

-- one text is written, and then another
pub written_both : (a b c : Option (List ℕ)) (x y : List ℕ) → Appends a b x → Appends b c y → Appends a c (x ++ y)
written_both None b c x y p q = tt
written_both (Some xs) None c x y p q = absurd p
written_both (Some xs) (Some ys) None x y p q = q
written_both (Some xs) (Some ys) (Some zs) x y p q = q ∙ ap (λ front. front ++ y) p ∙ append_assoc xs x y

-- the bytes of some words are written
pub words_written : (a b c : Option (List ℕ)) (done some start bytes : List ℕ) → start ≡ [] → bytes ≡ start ++ flat_map (little_bytes 8) some → Appends a b done → Appends b c bytes
    → Appends a c (done ++ flat_map (little_bytes 8) some)
words_written a b c done some start bytes none is before now =
    written_both a b c done (flat_map (little_bytes 8) some) before (subst (λ (l : List ℕ). Appends b c l) (is ∙ ap (λ l. l ++ flat_map (little_bytes 8) some) none) now)

-- and those of the words behind them are left
pub words_left : (words all some left done : List ℕ) → all ≡ some ++ left → done ++ flat_map (little_bytes 8) all ≡ flat_map (little_bytes 8) words
    → (done ++ flat_map (little_bytes 8) some) ++ flat_map (little_bytes 8) left ≡ flat_map (little_bytes 8) words
words_left words all some left done parts so_far =
    append_assoc done (flat_map (little_bytes 8) some) (flat_map (little_bytes 8) left)
    ∙ ap (λ l. done ++ l) (sym (ap (flat_map (little_bytes 8)) parts ∙ flat_map-append (little_bytes 8) some left)) ∙ so_far

-- all are written where none is left
pub all_written : (a b : Option (List ℕ)) (words left done : List ℕ) → length left ≡ 0 → done ++ flat_map (little_bytes 8) left ≡ flat_map (little_bytes 8) words → Appends a b done
    → Appends a b (flat_map (little_bytes 8) words)
all_written a b words left done none so_far before =
    subst (λ (l : List ℕ). Appends a b l) (sym (append-nil done) ∙ ap (λ l. done ++ flat_map (little_bytes 8) l) (sym (nil_from_length left none)) ∙ so_far) before

-- the bytes behind the words follow theirs
pub region_written : (a b c : Option (List ℕ)) (words rest w r : List ℕ) → w ≡ words → r ≡ rest → Appends a b (flat_map (little_bytes 8) w) → Appends b c r → Appends a c (bytes_of (record { words = words; rest = rest }))
region_written a b c words rest w r of_words of_rest first second =
    subst (λ (l : List ℕ). Appends a c l) (λ i. bytes_of (record { words = of_words i; rest = of_rest i })) (written_both a b c (flat_map (little_bytes 8) w) r first second)

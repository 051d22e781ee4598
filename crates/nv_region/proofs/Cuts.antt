-- The region of the first bytes of another.
use Rattle.std.proofs.Common.{◌≡◌, ◌≤◌, ◌<◌, ◌*◌, ◌+◌, ◌%◌, ◌/◌, ◌^◌, ℕ, zero, suc, List, [], ◌∷◌, ◌++◌, length, take, drop, get_or, refl, ap, ◌∙◌, arith, append_assoc}
use Rattle.std.specs.List.{flat_map}
use Rattle.std.proofs.lemmas.List.{length-take, take-append-le, drop_all}
use Rattle.std.proofs.Math.Seq.{take-append-add}
use Rattle.byteorder.specs.Endian.{little_number, little_bytes}
use Rattle.byteorder.specs.Numbers.{length-bytes_low_first, little_number-reads_back}
use Rattle.nv_region.specs.Region.{words_of, rest_of, region_of, bytes_of}
use Rattle.nv_region.proofs.Bytes.{words_of_short, rest_of_short}

-- it has the whole words among them, and the bytes behind these
cut_region : (words rest : List ℕ) (n r : ℕ) → ((i : ℕ) → get_or words i 0 < 2 ^ 64) → n ≤ length words → r < 8
    → region_of (take (8 * n + r) (bytes_of (record { words = words; rest = rest }))) ≡ record { words = take n words; rest = take r (bytes_of (record { words = drop n words; rest = rest })) }
cut_region words rest zero r fits within few =
    let bytes : List ℕ = take r (bytes_of (record { words = words; rest = rest })) in
    let short : length bytes < 8 = omega (arith, length-take r (bytes_of (record { words = words; rest = rest }))) in
    let whole : region_of bytes ≡ record { words = []; rest = bytes } = λ i. record { words = words_of_short bytes short i; rest = rest_of_short bytes short i } in
    let none : 8 * 0 + r ≡ r = omega arith in
    ap (λ (k : ℕ). region_of (take k (bytes_of (record { words = words; rest = rest })))) none ∙ whole
cut_region [] rest (suc n) r fits within few = absurd (omega arith)
cut_region (w ∷ words) rest (suc n) r fits within few =
    let further : List ℕ = bytes_of (record { words = words; rest = rest }) in
    let back = cut_region words rest n r (λ i. fits (suc i)) (omega arith) few in
    let shape : bytes_of (record { words = w ∷ words; rest = rest }) ≡ little_bytes 8 w ++ further = append_assoc (little_bytes 8 w) (flat_map (little_bytes 8) words) rest in
    let count : 8 * suc n + r ≡ length (little_bytes 8 w) + (8 * n + r) = omega (arith, length-bytes_low_first 0 8 w) in
    let front : take (8 * suc n + r) (little_bytes 8 w ++ further) ≡ little_bytes 8 w ++ take (8 * n + r) further =
    ap (λ (k : ℕ). take k (little_bytes 8 w ++ further)) count ∙ take-append-add (little_bytes 8 w) further (8 * n + r) in
    let read : region_of (little_bytes 8 w ++ take (8 * n + r) further) ≡ record { words = little_number 8 (little_bytes 8 w) ∷ words_of (take (8 * n + r) further); rest = rest_of (take (8 * n + r) further) } = refl in
    ap (λ (l : List ℕ). region_of (take (8 * suc n + r) l)) shape ∙ ap region_of front ∙ read ∙ (λ i. record { words = number i ∷ (back i).words; rest = (back i).rest })
  where
    number : little_number 8 (little_bytes 8 w) ≡ w
    number = little_number-reads_back 8 w [] (omega (arith, fits 0))

-- these are bytes of the next word, where there is one
next_word : (words rest : List ℕ) (n r : ℕ) → n < length words → r < 8 → take r (bytes_of (record { words = drop n words; rest = rest })) ≡ take r (little_bytes 8 (get_or words n 0))
next_word [] rest n r within few = absurd (omega arith)
next_word (w ∷ words) rest (suc n) r within few = next_word words rest n r (omega arith) few
next_word (w ∷ words) rest zero r within few =
    ap (λ (l : List ℕ). take r l) (append_assoc (little_bytes 8 w) (flat_map (little_bytes 8) words) rest)
    ∙ take-append-le r (little_bytes 8 w) (flat_map (little_bytes 8) words ++ rest) (omega (arith, few, length-bytes_low_first 0 8 w))

of_count : (words rest : List ℕ) (count : ℕ) → ((i : ℕ) → get_or words i 0 < 2 ^ 64) → count / 8 ≤ length words
    → region_of (take count (bytes_of (record { words = words; rest = rest }))) ≡ record { words = take (count / 8) words; rest = take (count % 8) (bytes_of (record { words = drop (count / 8) words; rest = rest })) }
of_count words rest count fits within =
    let whole : count ≡ 8 * (count / 8) + count % 8 = omega arith in
    ap (λ (k : ℕ). region_of (take k (bytes_of (record { words = words; rest = rest })))) whole ∙ cut_region words rest (count / 8) (count % 8) fits within (omega arith)

pub cut_in_word : (words rest : List ℕ) (count : ℕ) → ((i : ℕ) → get_or words i 0 < 2 ^ 64) → count / 8 < length words
    → region_of (take count (bytes_of (record { words = words; rest = rest }))) ≡ record { words = take (count / 8) words; rest = take (count % 8) (little_bytes 8 (get_or words (count / 8) 0)) }
cut_in_word words rest count fits within =
    of_count words rest count fits (omega arith)
    ∙ (λ i. record { words = take (count / 8) words; rest = next_word words rest (count / 8) (count % 8) within (omega arith) i })

pub cut_behind_words : (words rest : List ℕ) (count : ℕ) → ((i : ℕ) → get_or words i 0 < 2 ^ 64) → count / 8 ≡ length words
    → region_of (take count (bytes_of (record { words = words; rest = rest }))) ≡ record { words = take (count / 8) words; rest = take (count % 8) rest }
cut_behind_words words rest count fits past =
    of_count words rest count fits (omega (arith, past))
    ∙ (λ i. record { words = take (count / 8) words; rest = take (count % 8) (bytes_of (record { words = none i; rest = rest })) })
  where
    none : drop (count / 8) words ≡ []
    none = drop_all (count / 8) words (omega (arith, past))

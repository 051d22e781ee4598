-- The words of a region with a front and blocks that begin with some bytes each.
use Rattle.std.proofs.Common.{◌≡◌, inl, inr, ◌+◌, ◌*◌, ◌/◌, ◌%◌, ◌<◌, ◌≤◌, ℕ, List, [], length, get_or, drop, sym, ap, ◌∙◌, arith}
use Rattle.std.proofs.lemmas.Bool.{cases_lt}
use Rattle.std.proofs.lemmas.List.{get_or_past}
use Rattle.byteorder.specs.Endian.{little_number}
use Rattle.nv_region.specs.Region.{Region, size, word, words_of}
use Rattle.nv_region.specs.ImageState.{with_front}
use Rattle.nv_region.proofs.Fronted.{as_long_fronted, word_in_front, word_behind_front, count_of_words}
use Rattle.nv_region.proofs.Bytes.{word_of_bytes}
use Rattle.nv_metadata.specs.Memory.{pieced, piece_word}
use Rattle.nv_metadata.proofs.Pieces.{words_of_pieces, word_of_pieces, no_piece, a_piece, same_piece}

-- the region that is shown
abbrev pub shown : List ℕ → ℕ → (ℕ → List ℕ) → Region
shown front blocks piece = with_front front (pieced blocks piece)

pub words_shown : (front : List ℕ) (blocks : ℕ) (piece : ℕ → List ℕ) → length front ≤ 512 * blocks → length (shown front blocks piece).words ≡ 512 * blocks
words_shown front blocks piece few = (let n = words_of_pieces blocks piece in as_long_fronted front (pieced blocks piece) (omega (arith, few, n)) ∙ n)

pub size_shown : (front : List ℕ) (blocks : ℕ) (piece : ℕ → List ℕ) → length front ≤ 512 * blocks → size (shown front blocks piece) ≡ 4096 * blocks
size_shown front blocks piece few = omega (arith, words_shown front blocks piece few)

-- a word behind the front
word_shown : (front : List ℕ) (blocks : ℕ) (piece : ℕ → List ℕ) (i : ℕ) → length front ≤ i → i < 512 * blocks → get_or (shown front blocks piece).words i 0 ≡ piece_word piece i
word_shown front blocks piece i behind within = word_behind_front front (pieced blocks piece) i behind ∙ word_of_pieces blocks piece i within

-- a word past the end
word_past : (front : List ℕ) (blocks : ℕ) (piece : ℕ → List ℕ) (i : ℕ) → length front ≤ 512 * blocks → 512 * blocks ≤ i → get_or (shown front blocks piece).words i 0 ≡ 0
word_past front blocks piece i few past = get_or_past (shown front blocks piece).words i 0 (omega (arith, past, words_shown front blocks piece few))

-- the front has the words of its bytes
pub front_first : (front first : List ℕ) (blocks : ℕ) (piece : ℕ → List ℕ) → front ≡ words_of first → (at : ℕ) → at % 8 ≡ 0 → at + 8 ≤ length first → word (shown front blocks piece) at ≡ little_number 8 (drop at first)
front_first front first blocks piece is at aligned within =
    ap (λ (l : List ℕ). word (shown l blocks piece) at) is
    ∙ word_in_front (words_of first) (pieced blocks piece) (at / 8) (omega (arith, within, count_of_words first))
    ∙ word_of_bytes first at aligned within

-- and where nothing is held of any block are zeros behind it
pub zeros_first : (front : List ℕ) (blocks : ℕ) (piece : ℕ → List ℕ) → ((b : ℕ) → piece b ≡ []) → length front ≤ 512 * blocks → (i : ℕ) → length front ≤ i → get_or (shown front blocks piece).words i 0 ≡ 0
zeros_first front blocks piece none few i behind = elim (cases_lt i (512 * blocks)) [
  | inl within ↦ word_shown front blocks piece i behind within ∙ no_piece piece i (let blank = ap length (none (i / 512)) in omega (arith, blank))
  | inr past ↦ word_past front blocks piece i few past
]

module _ (front : List ℕ) (blocks : ℕ) (piece : ℕ → List ℕ) (at : ℕ) (aligned : at % 8 ≡ 0) (behind : 8 * length front ≤ at) (within : at + 8 ≤ 4096 * blocks) where
  place : at / 8 / 512 ≡ at / 4096
  place = omega arith

  offset : 8 * (at / 8 % 512) ≡ at % 4096
  offset = omega (arith, aligned)

  -- the word behind the bytes of its block
  pub word_none : length (piece (at / 4096)) ≤ at % 4096 → word (shown front blocks piece) at ≡ 0
  word_none past =
      let there = ap (λ (b : ℕ). length (piece b)) place in
      word_shown front blocks piece (at / 8) (omega (arith, behind)) (omega (arith, within)) ∙ no_piece piece (at / 8) (omega (arith, offset, past, there))

  -- and within them
  pub word_some : at % 4096 < length (piece (at / 4096)) → word (shown front blocks piece) at ≡ little_number 8 (drop (at % 4096) (piece (at / 4096)))
  word_some some =
      let there = ap (λ (b : ℕ). length (piece b)) place in
      word_shown front blocks piece (at / 8) (omega (arith, behind)) (omega (arith, within)) ∙ a_piece piece (at / 8) (omega (arith, offset, some, there))
      ∙ (λ i. little_number 8 (drop (offset i) (piece (place i))))

-- regions of as many blocks, of which this one begins with the same bytes, have the same words there
pub same_behind : (front other_front : List ℕ) (blocks : ℕ) (piece other : ℕ → List ℕ) → length front ≤ 512 * blocks → length other_front ≤ 512 * blocks
    → (at : ℕ) → 8 * length front ≤ at → 8 * length other_front ≤ at → piece (at / 4096) ≡ other (at / 4096) → word (shown front blocks piece) at ≡ word (shown other_front blocks other) at
same_behind front other_front blocks piece other few other_few at behind other_behind same = elim (cases_lt (at / 8) (512 * blocks)) [
  | inl within ↦ word_shown front blocks piece (at / 8) (omega (arith, behind)) within
      ∙ same_piece piece other (at / 8) (let place : at / 8 / 512 ≡ at / 4096 = omega arith in ap piece place ∙ same ∙ sym (ap other place))
      ∙ sym (word_shown other_front blocks other (at / 8) (omega (arith, other_behind)) within)
  | inr end ↦ word_past front blocks piece (at / 8) few end ∙ sym (word_past other_front blocks other (at / 8) other_few end)
]

-- and with the same front the word of each address where the blocks begin with the same bytes
pub same_word : (front : List ℕ) (blocks : ℕ) (piece other : ℕ → List ℕ) → length front ≤ 512 * blocks → (at : ℕ) → piece (at / 4096) ≡ other (at / 4096) → word (shown front blocks piece) at ≡ word (shown front blocks other) at
same_word front blocks piece other few at same = elim (cases_lt (at / 8) (length front)) [
  | inl within ↦ word_in_front front (pieced blocks piece) (at / 8) within ∙ sym (word_in_front front (pieced blocks other) (at / 8) within)
  | inr past ↦ same_behind front front blocks piece other few few at (omega (arith, past)) (omega (arith, past)) same
]

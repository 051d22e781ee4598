-- What a contract sees of `Leaves`, and how it lays out its words.
use Rattle.std.specs.Prelude.{◌≡◌, ◌⊎◌, ℕ, ◌+◌, ◌-◌, ◌*◌, ◌/◌, ◌%◌, ◌<◌, ◌≤◌, ◌^◌, Bool, nat_lt, nat_le, if◌then◌else◌, List, [], map, length, replicate, count_by, slice_index, slice_index_or}
use Rattle.std.specs.Prelude.{vec_items, vec_capacity, refl}
use Rattle.std.specs.List.{All, range_with_len, sum_by}
use Rattle.std.specs.Coded.{Coded, code_by, coded×, coded_ℕ, coded_list}
use Rattle.std.specs.declared.vec.Vec.{Vec}

-- the words from 0 on, and how many more that aren't 0 take no memory
pub record Words : Type 0 where
  pub items : List ℕ
  pub room : ℕ

-- they are stored as the pair of both
abbrev pub words_code : Coded Words
words_code = code_by (List ℕ × ℕ) (coded× (coded_list coded_ℕ) coded_ℕ) (λ v. (v.items, v.room)) (λ p. record { items = p.0; room = p.1 }) (λ _. refl)

-- it isn't 0
abbrev pub is_some_word : ℕ → Bool
is_some_word word = nat_lt 0 word

-- the word at a place, which is 0 where its leaf has none
abbrev pub word_at : List (List ℕ) → ℕ → ℕ
word_at leaves place = slice_index (slice_index_or leaves (place / 4096) []) (place % 4096)

-- the words at the first places
abbrev pub words_of : List (List ℕ) → ℕ → List ℕ
words_of leaves len = map (word_at leaves) (range_with_len 0 len)

-- How many more words take no memory, by how many leaves may be needed, have memory, and the words that aren't 0. Where each
-- leaf has memory they are more than there are places.
abbrev pub room_of : ℕ → ℕ → ℕ → ℕ
room_of leaves total count = if nat_le leaves total then 2 ^ 65 - count else total - count

-- so many words of a leaf aren't 0; it has all its words where there are some, and none else
pub record IsLeaf (words : List ℕ) (used : ℕ) : Type 0 where
  pub counted : count_by is_some_word words ≡ used
  pub made : 0 < used → length words ≡ 4096
  pub bare : used ≡ 0 → length words ≡ 0

-- the leaves have so many places, and their words that aren't 0 are counted
pub record AreLeaves (leaves : List (List ℕ)) (used : List ℕ) (len : ℕ) : Type 0 where
  pub as_many : length used ≡ length leaves
  pub each : (k : ℕ) → k < length leaves → IsLeaf (slice_index_or leaves k []) (slice_index used k)
  pub reach : len ≤ 4096 * length leaves
  pub few : length leaves ≤ 2 ^ 21

-- leaves of words that are 0, which with those that are made are so many
pub record AreSpares (used : List ℕ) (spares : List (List ℕ)) (total count : ℕ) : Type 0 where
  pub zeros : All (λ words. words ≡ replicate 4096 0) spares
  pub together : count_by is_some_word used + length spares ≡ total
  pub counted : sum_by (λ (n : ℕ). n) used ≡ count
  pub enough : (length used ≤ total) ⊎ (count ≤ total)

-- the words of each leaf
abbrev pub leaves_of : {A : Type 0} → List (Vec ℕ A) → List (List ℕ)
leaves_of leaves = map vec_items leaves

-- the leaves, and the spare ones; behind the last place the words are 0
pub record IsLeaved {A B : Type 0} (leaves : List (Vec ℕ A)) (used : List ℕ) (spares : Vec (Vec ℕ A) B) (total count len : ℕ) : Type 0 where
  pub words : AreLeaves (leaves_of leaves) used len
  pub zeros : AreSpares used (leaves_of spares.items) total count
  pub roomy : total ≤ vec_capacity spares
  pub behind : (k : ℕ) → len ≤ k → word_at (leaves_of leaves) k ≡ 0

-- what a contract sees of them
abbrev pub leaved_as : {A : Type 0} → List (Vec ℕ A) → ℕ → ℕ → ℕ → Words
leaved_as leaves total count len = record { items = words_of (leaves_of leaves) len; room = room_of (length leaves) total count }

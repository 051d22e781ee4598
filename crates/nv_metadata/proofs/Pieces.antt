-- The words of blocks that begin with some bytes each, and the places of these bytes.
use Rattle.std.proofs.Common.{◌≡◌, inl, inr, ◌+◌, ◌*◌, ◌/◌, ◌%◌, ◌<◌, ◌≤◌, ℕ, true, false, nat_lt, if◌then◌else◌, List, [], ◌∷◌, ◌++◌, length, get_or, set, take, drop, refl, sym, ap, ◌∙◌, subst, arith, length-drop, length-append, length-set, append-nil, get_or-set_same, get_or-set_other}
use Rattle.std.proofs.lemmas.Bool.{cases_eq}
use Rattle.std.proofs.lemmas.Bool.Decides.{nat_tests}
use Rattle.std.proofs.lemmas.List.{drop-append-le, take-append-le, take-append-drop, drop_at, drop-drop, length-take, take_all, get_or_append_left, get_or-append-add}
use Rattle.std.proofs.lemmas.List.FromFn.{length-map-range_with_len, get_or-map-range_with_len}
use Rattle.byteorder.specs.Endian.{little_number}
use Rattle.nv_metadata.specs.Memory.{pieced, piece_at, piece_word, IsPlaced}
use Rattle.nv_metadata.specs.declared.places.Place.{Place}

-- a number is that of its bytes, whatever stands behind them
pub number_front : (xs ys : List ℕ) → 8 ≤ length xs → little_number 8 (xs ++ ys) ≡ little_number 8 xs
number_front (a ∷ b ∷ c ∷ d ∷ e ∷ f ∷ g ∷ h ∷ rest) ys long = refl
number_front (a ∷ b ∷ c ∷ d ∷ e ∷ f ∷ g ∷ []) ys long = absurd (omega arith)
number_front (a ∷ b ∷ c ∷ d ∷ e ∷ f ∷ []) ys long = absurd (omega arith)
number_front (a ∷ b ∷ c ∷ d ∷ e ∷ []) ys long = absurd (omega arith)
number_front (a ∷ b ∷ c ∷ d ∷ []) ys long = absurd (omega arith)
number_front (a ∷ b ∷ c ∷ []) ys long = absurd (omega arith)
number_front (a ∷ b ∷ []) ys long = absurd (omega arith)
number_front (a ∷ []) ys long = absurd (omega arith)
number_front [] ys long = absurd (omega arith)

-- a number within the front of a list
pub number_within : (xs ys : List ℕ) (at : ℕ) → at + 8 ≤ length xs → little_number 8 (drop at (xs ++ ys)) ≡ little_number 8 (drop at xs)
number_within xs ys at within = ap (little_number 8) (drop-append-le at xs ys (omega arith)) ∙ number_front (drop at xs) ys (omega (arith, length-drop at xs))

-- a number within what was taken
pub number_taken : (n : ℕ) (xs : List ℕ) (at : ℕ) → at + 8 ≤ n → n ≤ length xs → little_number 8 (drop at (take n xs)) ≡ little_number 8 (drop at xs)
number_taken n xs at within few = sym (number_within (take n xs) (drop n xs) at (omega (arith, length-take n xs))) ∙ ap (λ (l : List ℕ). little_number 8 (drop at l)) (take-append-drop n xs)

-- a test of one number below another
pub is_below : (a b : ℕ) → a < b → nat_lt a b ≡ true
is_below a b h = grind (nat_tests, arith)

pub not_below : (a b : ℕ) → b ≤ a → nat_lt a b ≡ false
not_below a b h = grind (nat_tests, arith)

-- ---- the region of the pieces

pub words_of_pieces : (blocks : ℕ) (piece : ℕ → List ℕ) → length (pieced blocks piece).words ≡ 512 * blocks
words_of_pieces blocks piece = length-map-range_with_len (λ i. piece_word piece i) 0 (512 * blocks)

pub word_of_pieces : (blocks : ℕ) (piece : ℕ → List ℕ) (i : ℕ) → i < 512 * blocks → get_or (pieced blocks piece).words i 0 ≡ piece_word piece i
word_of_pieces blocks piece i within = get_or-map-range_with_len (λ i. piece_word piece i) 0 (512 * blocks) i i 0 within (omega arith)

-- behind the bytes of a block are zeros
pub no_piece : (piece : ℕ → List ℕ) (i : ℕ) → length (piece (i / 512)) ≤ 8 * (i % 512) → piece_word piece i ≡ 0
no_piece piece i past = rw (not_below (8 * (i % 512)) (length (piece (i / 512))) past) refl

pub a_piece : (piece : ℕ → List ℕ) (i : ℕ) → 8 * (i % 512) < length (piece (i / 512)) → piece_word piece i ≡ little_number 8 (drop (8 * (i % 512)) (piece (i / 512)))
a_piece piece i within = rw (is_below (8 * (i % 512)) (length (piece (i / 512))) within) refl

-- blocks with the same bytes have the same words
pub same_piece : (piece other : ℕ → List ℕ) (i : ℕ) → piece (i / 512) ≡ other (i / 512) → piece_word piece i ≡ piece_word other i
same_piece piece other i same = ap (λ (l : List ℕ). if nat_lt (8 * (i % 512)) (length l) then little_number 8 (drop (8 * (i % 512)) l) else 0) same

-- ---- places

-- there are as many bytes as the place has
pub piece_length : (parts : List (List ℕ)) (p : Place) → IsPlaced parts p → length (piece_at parts p) ≡ p.count
piece_length parts p placed = (let d = length-drop p.start (get_or parts p.part []) in let t = length-take p.count (drop p.start (get_or parts p.part [])) in let inside = placed.inside in omega (arith, d, t, inside))

-- and a number of them stands in the part
pub piece_number : (parts : List (List ℕ)) (p : Place) (at : ℕ) → IsPlaced parts p → at + 8 ≤ p.count → little_number 8 (drop (p.start + at) (get_or parts p.part [])) ≡ little_number 8 (drop at (piece_at parts p))
piece_number parts p at placed within =
    sym (ap (little_number 8) (drop-drop at p.start (get_or parts p.part [])))
    ∙ sym (number_taken p.count (drop p.start (get_or parts p.part [])) at within (let d = length-drop p.start (get_or parts p.part []) in let inside = placed.inside in omega (arith, d, inside)))

-- where a part has more behind it, the place has the same bytes
module _ (parts more : List (List ℕ)) (p : Place) (rest : List ℕ) (placed : IsPlaced parts p) (longer : get_or more p.part [] ≡ get_or parts p.part [] ++ rest) where
  pub piece_stays : piece_at more p ≡ piece_at parts p
  piece_stays =
      let d = length-drop p.start (get_or parts p.part []) in
      let inside = placed.inside in
      ap (λ (l : List ℕ). take p.count (drop p.start l)) longer
      ∙ ap (take p.count) (drop-append-le p.start (get_or parts p.part []) rest (omega (arith, inside)))
      ∙ take-append-le p.count (drop p.start (get_or parts p.part [])) rest (omega (arith, d, inside))

  pub placed_stays : length parts ≤ length more → IsPlaced more p
  placed_stays many = record {
    whole = placed.whole;
    among = (let among = placed.among in omega (arith, among, many));
    inside = (let inside = placed.inside in let n = ap length longer in let l = length-append (get_or parts p.part []) rest in omega (arith, inside, n, l));
  }

-- ---- a piece behind the bytes of the first part

module _ (parts : List (List ℕ)) (piece : List ℕ) (some : 0 < length parts) where
  abbrev pub grown : List (List ℕ)
  grown = set parts 0 (get_or parts 0 [] ++ piece)

  first_grown : get_or grown 0 [] ≡ get_or parts 0 [] ++ piece
  first_grown = get_or-set_same parts 0 (get_or parts 0 [] ++ piece) [] some

  -- each part has what it had, and maybe more behind it
  pub grows : (q : ℕ) → (rest : List ℕ) × (get_or grown q [] ≡ get_or parts q [] ++ rest)
  grows q = elim (cases_eq q 0) [
    | inl is ↦ (piece, subst (λ (n : ℕ). get_or grown n [] ≡ get_or parts n [] ++ piece) (sym is) first_grown)
    | inr other ↦ ([], get_or-set_other parts 0 q (get_or parts 0 [] ++ piece) [] other ∙ sym (append-nil (get_or parts q [])))
  ]

  pub as_many_grown : length grown ≡ length parts
  as_many_grown = length-set parts 0 (get_or parts 0 [] ++ piece)

  -- and the piece has its place there
  module _ (known : ℕ) where
    abbrev pub place_behind : Place
    place_behind = record { part = 0; start = length (get_or parts 0 []); count = length piece; known = known }

    pub piece_comes : piece_at grown place_behind ≡ piece
    piece_comes = ap (λ (l : List ℕ). take (length piece) (drop (length (get_or parts 0 [])) l)) first_grown ∙ ap (take (length piece)) (drop_at (get_or parts 0 []) piece (length (get_or parts 0 [])) refl) ∙ take_all (length piece) piece (omega arith)

    pub placed_behind : length piece % 8 ≡ 0 → IsPlaced grown place_behind
    placed_behind whole = record {
      whole = whole;
      among = omega (arith, some, as_many_grown);
      inside = (let n = ap length first_grown in let l = length-append (get_or parts 0 []) piece in omega (arith, n, l));
    }

-- ---- the parts of another memory behind these

module _ (parts others : List (List ℕ)) (p : Place) where
  pub part_stays : IsPlaced parts p → get_or (parts ++ others) p.part [] ≡ get_or parts p.part [] ++ []
  part_stays placed = get_or_append_left parts others [] p.part placed.among ∙ sym (append-nil (get_or parts p.part []))

  abbrev pub behind : Place
  behind = record p { part = length parts + p.part }

  part_behind : get_or (parts ++ others) (length parts + p.part) [] ≡ get_or others p.part []
  part_behind = get_or-append-add parts others p.part []

  pub piece_behind : piece_at (parts ++ others) behind ≡ piece_at others p
  piece_behind = ap (λ (l : List ℕ). take p.count (drop p.start l)) part_behind

  pub stands_behind : IsPlaced others p → IsPlaced (parts ++ others) behind
  stands_behind placed = record {
    whole = placed.whole;
    among = (let among = placed.among in let l = length-append parts others in omega (arith, among, l));
    inside = (let inside = placed.inside in let n = ap length part_behind in omega (arith, inside, n));
  }

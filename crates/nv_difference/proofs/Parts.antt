-- Where the bytes of two files part, piece by piece.
use Rattle.std.proofs.Common.{◌≡◌, ◌∙◌, ◌⊎◌, ◌+◌, ◌-◌, ◌<◌, ◌≤◌, ℕ, List, map, get_or, Option, Some, None, is_some, true, false, sym, ap, subst, inl, inr, arith}
use Rattle.std.specs.List.{range_with_len}
use Rattle.std.specs.Prelude.{MatchOption}
use Rattle.std.proofs.lemmas.List.FromFn.{length-map-range_with_len, get_or-map-range_with_len}
use Rattle.std.proofs.lemmas.Bool.{cases_lt}
use Rattle.nv_tree.specs.Tree.{Node}
use Rattle.nv_difference.specs.Bytes.{AreSameBelow, AreSameFrom, PartBelow, PartFrom, PartWithin}

-- a byte of a piece
piece_byte : (f : ℕ → ℕ) (at n x : ℕ) → at ≤ x → x < at + n → f x ≡ get_or (map f (range_with_len at n)) (x - at) 0
piece_byte f at n x from below = sym (get_or-map-range_with_len f at n (x - at) x 0 (omega (arith, from, below)) (omega (arith, from)))

module _ (a b : Node) (at n : ℕ) where
  -- two equal pieces
  pub piece_same : map a.bytes (range_with_len at n) ≡ map b.bytes (range_with_len at n) → AreSameFrom a b at (at + n)
  piece_same same x from below = piece_byte a.bytes at n x from below ∙ ap (λ (l : List ℕ). get_or l (x - at) 0) same ∙ sym (piece_byte b.bytes at n x from below)

  -- a place within the piece
  place_byte : (f : ℕ → ℕ) (k : ℕ) → k < n → get_or (map f (range_with_len at n)) k 0 ≡ f (at + k)
  place_byte f k below = get_or-map-range_with_len f at n k (at + k) 0 below (omega arith)

  pub piece_parts : (k : ℕ) → PartWithin (map a.bytes (range_with_len at n)) (map b.bytes (range_with_len at n)) k → PartFrom a b at (at + n) (at + k)
  piece_parts k p =
      let below : k < n = subst (λ m. k < m) (length-map-range_with_len a.bytes at n) p.below in
      record {
        from = omega arith;
        below = omega (arith, below);
        differ = λ same. p.differ (place_byte a.bytes k below ∙ same ∙ sym (place_byte b.bytes k below));
        same = λ x from before.
            let inner : x - at < k = omega (arith, from, before) in
            let far : x < at + n = omega (arith, before, below) in
            piece_byte a.bytes at n x from far ∙ p.same (x - at) inner ∙ sym (piece_byte b.bytes at n x from far);
      }

-- the same of the pieces that were read
module _ (a b : Node) (at n m : ℕ) (long : n ≡ m) (left right : List ℕ) (first : left ≡ map a.bytes (range_with_len at n)) (second : right ≡ map b.bytes (range_with_len at m)) where
  other : right ≡ map b.bytes (range_with_len at n)
  other = second ∙ ap (λ (k : ℕ). map b.bytes (range_with_len at k)) (sym long)

  pub read_same : left ≡ right → AreSameFrom a b at (at + n)
  read_same same = piece_same a b at n (sym first ∙ same ∙ other)

  pub read_parts : (k : ℕ) → PartWithin left right k → PartFrom a b at (at + n) (at + k)
  read_parts k p = piece_parts a b at n k (subst (λ (l : List ℕ). PartWithin (map a.bytes (range_with_len at n)) l k) other (subst (λ (l : List ℕ). PartWithin l right k) first p))

-- what is the same in front of a place, and from there on
pub same_further : (a b : Node) (at end : ℕ) → AreSameBelow a b at → AreSameFrom a b at end → AreSameBelow a b end
same_further a b at end before behind x below = elim (le_or_lt at x) [
  | inl from ↦ behind x from below
  | inr less ↦ before x less
] where
  le_or_lt : (at x : ℕ) → (at ≤ x) ⊎ (x < at)
  le_or_lt at x = elim (cases_lt x at) [ inl less ↦ inr less | inr from ↦ inl from ]

-- the first place behind what is the same
pub parts_first : (a b : Node) (at mid end place : ℕ) → mid ≤ end → AreSameBelow a b at → PartFrom a b at mid place → PartBelow a b end place
parts_first a b at mid end place within before p = record {
  below = (let below = p.below in omega (arith, below, within));
  differ = p.differ;
  same = same_further a b at place before p.same;
}

-- no place is left
pub same_all : (a b : Node) (at end : ℕ) → end ≤ at → AreSameBelow a b at → AreSameBelow a b end
same_all a b at end done before x below = before x (omega (arith, done, below))

-- ---- by what was found in a piece

pub some_parts : (a b : Node) (at n end : ℕ) (r : Option ℕ) → is_some r ≡ true → AreSameBelow a b at → MatchOption r (AreSameFrom a b at (at + n)) (PartFrom a b at (at + n)) → at + n ≤ end
    → MatchOption r (AreSameBelow a b end) (PartBelow a b end)
some_parts a b at n end None some before found within = absurd (cc)
some_parts a b at n end (Some place) some before found within = parts_first a b at (at + n) end place within before found

pub none_parts : (a b : Node) (at n more : ℕ) (r : Option ℕ) → is_some r ≡ false → AreSameBelow a b at → MatchOption r (AreSameFrom a b at (at + n)) (PartFrom a b at (at + n)) → more ≤ n
    → AreSameBelow a b (at + more)
none_parts a b at n more None none before found within = λ x below. same_further a b at (at + n) before found x (omega (arith, below, within))
none_parts a b at n more (Some place) none before found within = absurd (cc)

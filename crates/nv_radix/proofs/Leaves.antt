-- What the pages of a leaf show.
use Rattle.std.proofs.Common.{◌≡◌, ℕ, ◌+◌, ◌-◌, ◌/◌, ◌<◌, ◌≤◌, true, cond, eqb, ltb, List, [], ◌∷◌, ◌++◌, length, get_or, Option, Some, None, refl, ap, sym, ◌∙◌, subst, arith, inl, inr, suc}
use Rattle.std.specs.Int.{bit_at}
use Rattle.std.proofs.lemmas.Bool.{cases_lt}
use Rattle.std.proofs.lemmas.Bool.Decides.{eqb_tells, leb_tells}
use Rattle.nv_radix.specs.Pages.{Pages, block_at, is_ready}
use Rattle.nv_radix.specs.Rising.{Rises}
use Rattle.nv_radix.specs.Nodes.{leaf_pages, IsNode}
use Rattle.nv_radix.proofs.Rising.{Rises-higher, block_at-above, is_ready-above}

pub Rises-leaf_pages : (mapped : ℕ) (blocks : List ℕ) (first : ℕ) → Rises first (first + length blocks) (leaf_pages mapped blocks first)
Rises-leaf_pages mapped [] first = omega arith
Rises-leaf_pages mapped (b ∷ bs) first = (omega arith, omega arith, (let same : first + 1 + length bs ≡ first + length (b ∷ bs) = omega arith in subst (λ k. Rises (first + 1) k (leaf_pages mapped bs (first + 1))) same (Rises-leaf_pages mapped bs (first + 1))))

-- the block where the bit is set
abbrev pub leaf_block : ℕ → List ℕ → ℕ → ℕ → Option ℕ
leaf_block mapped blocks p at = cond (eqb (bit_at mapped p) 1) (Some (get_or blocks at 0)) None

block_at-leaf_pages : (mapped : ℕ) (blocks : List ℕ) (first p : ℕ) → first ≤ p → p < first + length blocks → block_at (leaf_pages mapped blocks first) p ≡ leaf_block mapped blocks p (p - first)
block_at-leaf_pages mapped [] first p l h = absurd (omega (arith, l, h))
block_at-leaf_pages mapped (b ∷ bs) first p l h = elim (eqb_tells first p) [
  | inl w ↦ (let here : p - first ≡ 0 = omega (arith, w.1) in rw (w.0, here) (ap (λ (q : ℕ). cond (eqb (bit_at mapped q) 1) (Some b) None) w.1))
  | inr w ↦ (let here : p - first ≡ suc (p - (first + 1)) = omega (arith, w.1, l) in rw (w.0, here) (block_at-leaf_pages mapped bs (first + 1) p (omega (arith, l, w.1)) (omega (arith, h))))
]

is_ready-leaf_pages : (mapped : ℕ) (blocks : List ℕ) (first p : ℕ) → first ≤ p → p < first + length blocks → is_ready (leaf_pages mapped blocks first) p ≡ true
is_ready-leaf_pages mapped [] first p l h = absurd (omega (arith, l, h))
is_ready-leaf_pages mapped (b ∷ bs) first p l h = elim (eqb_tells first p) [
  | inl w ↦ rw w.0 refl
  | inr w ↦ rw w.0 (is_ready-leaf_pages mapped bs (first + 1) p (omega (arith, l, w.1)) (omega (arith, h)))
]

-- the pages of a leaf from 0 on
pub block_at-leaf : (mapped : ℕ) (blocks : List ℕ) (p : ℕ) → p < length blocks → block_at (leaf_pages mapped blocks 0) p ≡ leaf_block mapped blocks p p
block_at-leaf mapped blocks p l = block_at-leaf_pages mapped blocks 0 p (omega arith) (omega (arith, l)) ∙ (let same : p - 0 ≡ p = omega arith in ap (leaf_block mapped blocks p) same)

pub block_at-past_leaf : (mapped : ℕ) (blocks : List ℕ) (p : ℕ) → length blocks ≤ p → block_at (leaf_pages mapped blocks 0) p ≡ None
block_at-past_leaf mapped blocks p l = block_at-above 0 (0 + length blocks) (leaf_pages mapped blocks 0) p (Rises-leaf_pages mapped blocks 0) (omega (arith, l))

pub is_ready-leaf : (mapped : ℕ) (blocks : List ℕ) (p : ℕ) → is_ready (leaf_pages mapped blocks 0) p ≡ ltb p (length blocks)
is_ready-leaf mapped blocks p = elim (leb_tells (suc p) (length blocks)) [
  | inl w ↦ rw w.0 (is_ready-leaf_pages mapped blocks 0 p (omega arith) (omega (arith, w.1)))
  | inr w ↦ rw w.0 (is_ready-above 0 (0 + length blocks) (leaf_pages mapped blocks 0) p (Rises-leaf_pages mapped blocks 0) (omega (arith, w.1)))
]

pub IsNode-leaf : (mapped : ℕ) (blocks : List ℕ) → (0 < length blocks → length blocks ≡ 64) → IsNode 64 (leaf_pages mapped blocks 0)
IsNode-leaf mapped blocks size = record {
  rises = Rises-higher 0 (0 + length blocks) 64 (leaf_pages mapped blocks 0) (elim (cases_lt 0 (length blocks)) [ inl w ↦ (let full = size w in omega (arith, full)) | inr w ↦ omega (arith, w) ]) (Rises-leaf_pages mapped blocks 0);
  leaves = λ p q e. is_ready-leaf mapped blocks p ∙ together (length blocks) p q size e ∙ sym (is_ready-leaf mapped blocks q);
}
  where
    together : (n p q : ℕ) → (0 < n → n ≡ 64) → p / 64 ≡ q / 64 → ltb p n ≡ ltb q n
    together n p q size e = elim (leb_tells (suc p) n) [
      | inl w ↦ elim (leb_tells (suc q) n) [ inl v ↦ rw (w.0, v.0) refl | inr v ↦ absurd (let full : n ≡ 64 = size (omega (arith, w.1)) in omega (arith, w.1, v.1, e, full)) ]
      | inr w ↦ elim (leb_tells (suc q) n) [ inl v ↦ absurd (let full : n ≡ 64 = size (omega (arith, v.1)) in omega (arith, w.1, v.1, e, full)) | inr v ↦ rw (w.0, v.0) refl ]
    ]

-- a longer leaf
pub leaf_pages-append : (mapped : ℕ) (xs ys : List ℕ) (first : ℕ) → leaf_pages mapped (xs ++ ys) first ≡ leaf_pages mapped xs first ++ leaf_pages mapped ys (first + length xs)
leaf_pages-append mapped [] ys first = (let same : first ≡ first + 0 = omega arith in ap (leaf_pages mapped ys) same)
leaf_pages-append mapped (x ∷ xs) ys first =
    let same : first + 1 + length xs ≡ first + length (x ∷ xs) = omega arith in
    ap (λ (m : Pages). (first, cond (eqb (bit_at mapped first) 1) (Some x) None) ∷ m) (leaf_pages-append mapped xs ys (first + 1) ∙ ap (λ (k : ℕ). leaf_pages mapped xs (first + 1) ++ leaf_pages mapped ys k) same)

-- pages with no set bit have no block
pub block_at-unset : (mapped : ℕ) (blocks : List ℕ) (first p : ℕ) → ((q : ℕ) → first ≤ q → bit_at mapped q ≡ 0) → block_at (leaf_pages mapped blocks first) p ≡ None
block_at-unset mapped [] first p h = refl
block_at-unset mapped (b ∷ bs) first p h = elim (eqb_tells first p) [
  | inl w ↦ rw (w.0, h first (omega arith)) refl
  | inr w ↦ rw w.0 (block_at-unset mapped bs (first + 1) p (λ q l. h q (omega (arith, l))))
]

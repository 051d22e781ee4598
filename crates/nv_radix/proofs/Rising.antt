-- Rising pages, joined and cut.
use Rattle.std.proofs.Common.{◌≡◌, ℕ, ◌+◌, ◌<◌, ◌≤◌, Bool, false, cond, ◌||◌, eqb, [], ◌∷◌, ◌++◌, None, refl, ap, arith, inl, inr}
use Rattle.std.proofs.lemmas.Bool.Decides.{eqb_tells}
use Rattle.nv_radix.specs.Pages.{Pages, block_at, is_ready}
use Rattle.nv_radix.specs.Rising.{Rises}

pub Rises-bounds : (a b : ℕ) (m : Pages) → Rises a b m → a ≤ b
Rises-bounds a b [] h = h
Rises-bounds a b (x ∷ xs) h = (let rest = Rises-bounds (x.0 + 1) b xs h.2 in omega (arith, rest, h.0))

-- a lower start
pub Rises-lower : (a a' b : ℕ) (m : Pages) → a' ≤ a → Rises a b m → Rises a' b m
Rises-lower a a' b [] l h = omega (arith, l, h)
Rises-lower a a' b (x ∷ xs) l h = (omega (arith, l, h.0), h.1, h.2)

-- a higher end
pub Rises-higher : (a b b' : ℕ) (m : Pages) → b ≤ b' → Rises a b m → Rises a b' m
Rises-higher a b b' [] l h = omega (arith, l, h)
Rises-higher a b b' (x ∷ xs) l h = (h.0, omega (arith, l, h.1), Rises-higher (x.0 + 1) b b' xs l h.2)

pub Rises-append : (a b c : ℕ) (m n : Pages) → Rises a b m → Rises b c n → Rises a c (m ++ n)
Rises-append a b c [] n h k = Rises-lower b a c n h k
Rises-append a b c (x ∷ xs) n h k = (let last = Rises-bounds b c n k in (h.0, omega (arith, last, h.1), Rises-append (x.0 + 1) b c xs n h.2 k))

-- a page outside has no block and isn't ready
pub block_at-below : (a b : ℕ) (m : Pages) (p : ℕ) → Rises a b m → p < a → block_at m p ≡ None
block_at-below a b [] p h l = refl
block_at-below a b (x ∷ xs) p h l = elim (eqb_tells x.0 p) [
  | inl w ↦ absurd (omega (arith, w.1, h.0, l))
  | inr w ↦ rw w.0 (block_at-below (x.0 + 1) b xs p h.2 (omega (arith, h.0, l)))
]

pub block_at-above : (a b : ℕ) (m : Pages) (p : ℕ) → Rises a b m → b ≤ p → block_at m p ≡ None
block_at-above a b [] p h l = refl
block_at-above a b (x ∷ xs) p h l = elim (eqb_tells x.0 p) [
  | inl w ↦ absurd (omega (arith, w.1, h.1, l))
  | inr w ↦ rw w.0 (block_at-above (x.0 + 1) b xs p h.2 l)
]

pub is_ready-below : (a b : ℕ) (m : Pages) (p : ℕ) → Rises a b m → p < a → is_ready m p ≡ false
is_ready-below a b [] p h l = refl
is_ready-below a b (x ∷ xs) p h l = elim (eqb_tells x.0 p) [
  | inl w ↦ absurd (omega (arith, w.1, h.0, l))
  | inr w ↦ rw w.0 (is_ready-below (x.0 + 1) b xs p h.2 (omega (arith, h.0, l)))
]

pub is_ready-above : (a b : ℕ) (m : Pages) (p : ℕ) → Rises a b m → b ≤ p → is_ready m p ≡ false
is_ready-above a b [] p h l = refl
is_ready-above a b (x ∷ xs) p h l = elim (eqb_tells x.0 p) [
  | inl w ↦ absurd (omega (arith, w.1, h.1, l))
  | inr w ↦ rw w.0 (is_ready-above (x.0 + 1) b xs p h.2 l)
]

-- of two lists joined, the first decides below the border and the second from it on
pub block_at-first : (b c : ℕ) (m n : Pages) (p : ℕ) → Rises b c n → p < b → block_at (m ++ n) p ≡ block_at m p
block_at-first b c [] n p k l = block_at-below b c n p k l
block_at-first b c (x ∷ xs) n p k l = ap (cond (eqb x.0 p) x.1) (block_at-first b c xs n p k l)

pub block_at-second : (a b : ℕ) (m n : Pages) (p : ℕ) → Rises a b m → b ≤ p → block_at (m ++ n) p ≡ block_at n p
block_at-second a b [] n p h l = refl
block_at-second a b (x ∷ xs) n p h l = elim (eqb_tells x.0 p) [
  | inl w ↦ absurd (omega (arith, w.1, h.1, l))
  | inr w ↦ rw w.0 (block_at-second (x.0 + 1) b xs n p h.2 l)
]

pub is_ready-first : (b c : ℕ) (m n : Pages) (p : ℕ) → Rises b c n → p < b → is_ready (m ++ n) p ≡ is_ready m p
is_ready-first b c [] n p k l = is_ready-below b c n p k l
is_ready-first b c (x ∷ xs) n p k l = ap (λ (r : Bool). eqb x.0 p || r) (is_ready-first b c xs n p k l)

pub is_ready-second : (a b : ℕ) (m n : Pages) (p : ℕ) → Rises a b m → b ≤ p → is_ready (m ++ n) p ≡ is_ready n p
is_ready-second a b [] n p h l = refl
is_ready-second a b (x ∷ xs) n p h l = elim (eqb_tells x.0 p) [
  | inl w ↦ absurd (omega (arith, w.1, h.1, l))
  | inr w ↦ rw w.0 (is_ready-second (x.0 + 1) b xs n p h.2 l)
]

-- pages with no block add none
pub block_at-none : (m n : Pages) (p : ℕ) → ((q : ℕ) → block_at n q ≡ None) → block_at (m ++ n) p ≡ block_at m p
block_at-none [] n p none = none p
block_at-none (x ∷ xs) n p none = ap (cond (eqb x.0 p) x.1) (block_at-none xs n p none)

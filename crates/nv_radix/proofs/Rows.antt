-- The pages of nodes in a row, by the place of a node and a page of it.
use Rattle.std.proofs.Common.{◌≡◌, ℕ, ◌+◌, ◌-◌, ◌*◌, ◌<◌, List, [], ◌∷◌, ◌++◌, length, get_or, None, refl, ap, sym, ◌∙◌, subst, arith, inl, inr, zero, suc, append_assoc}
use Rattle.std.specs.List.{All}
use Rattle.std.proofs.lemmas.Bool.{cases_lt}
use Rattle.std.proofs.lemmas.Bool.Decides.{eqb_tells}
use Rattle.std.proofs.lemmas.List.Elements.{All-tail}
use Rattle.nv_radix.specs.Pages.{Pages, block_at, is_ready}
use Rattle.nv_radix.specs.Rising.{Rises}
use Rattle.nv_radix.specs.Nodes.{raised, in_row, IsNode}
use Rattle.nv_radix.proofs.Rising.{Rises-append, block_at-first, block_at-second, is_ready-first, is_ready-second}

pub Rises-raised : (by a b : ℕ) (m : Pages) → Rises a b m → Rises (by + a) (by + b) (raised by m)
Rises-raised by a b [] h = omega (arith, h)
Rises-raised by a b (x ∷ xs) h =
    (omega (arith, h.0), omega (arith, h.1), (let same : by + (x.0 + 1) ≡ by + x.0 + 1 = omega arith in subst (λ k. Rises k (by + b) (raised by xs)) same (Rises-raised by (x.0 + 1) b xs h.2)))

pub block_at-raised : (by : ℕ) (m : Pages) (p : ℕ) → block_at (raised by m) (by + p) ≡ block_at m p
block_at-raised by [] p = refl
block_at-raised by (x ∷ xs) p = elim (eqb_tells x.0 p) [
  | inl w ↦ elim (eqb_tells (by + x.0) (by + p)) [ inl v ↦ rw (w.0, v.0) refl | inr v ↦ absurd (v.1 (omega (arith, w.1))) ]
  | inr w ↦ elim (eqb_tells (by + x.0) (by + p)) [ inl v ↦ absurd (w.1 (omega (arith, v.1))) | inr v ↦ rw (w.0, v.0) (block_at-raised by xs p) ]
]

block_at-raised_below : (by : ℕ) (m : Pages) (p : ℕ) → p < by → block_at (raised by m) p ≡ None
block_at-raised_below by [] p l = refl
block_at-raised_below by (x ∷ xs) p l = elim (eqb_tells (by + x.0) p) [ inl w ↦ absurd (omega (arith, w.1, l)) | inr w ↦ rw w.0 (block_at-raised_below by xs p l) ]

pub block_at-raised_none : (by : ℕ) (m : Pages) (p : ℕ) → ((q : ℕ) → block_at m q ≡ None) → block_at (raised by m) p ≡ None
block_at-raised_none by m p none = elim (cases_lt p by) [
  | inl l ↦ block_at-raised_below by m p l
  | inr l ↦ (let back : by + (p - by) ≡ p = omega (arith, l) in ap (block_at (raised by m)) (sym back) ∙ block_at-raised by m (p - by) ∙ none (p - by))
]

pub is_ready-raised : (by : ℕ) (m : Pages) (p : ℕ) → is_ready (raised by m) (by + p) ≡ is_ready m p
is_ready-raised by [] p = refl
is_ready-raised by (x ∷ xs) p = elim (eqb_tells x.0 p) [
  | inl w ↦ elim (eqb_tells (by + x.0) (by + p)) [ inl v ↦ rw (w.0, v.0) refl | inr v ↦ absurd (v.1 (omega (arith, w.1))) ]
  | inr w ↦ elim (eqb_tells (by + x.0) (by + p)) [ inl v ↦ absurd (w.1 (omega (arith, v.1))) | inr v ↦ rw (w.0, v.0) (is_ready-raised by xs p) ]
]

pub raised-append : (by : ℕ) (m n : Pages) → raised by (m ++ n) ≡ raised by m ++ raised by n
raised-append by [] n = refl
raised-append by (x ∷ xs) n = ap (λ (r : Pages). (by + x.0, x.1) ∷ r) (raised-append by xs n)

pub raised-raised : (a b : ℕ) (m : Pages) → raised a (raised b m) ≡ raised (a + b) m
raised-raised a b [] = refl
raised-raised a b (x ∷ xs) = (let same : a + (b + x.0) ≡ a + b + x.0 = omega arith in rw (same, raised-raised a b xs) refl)

-- a node before a raised list: the node decides below its span, and the list from there on
pub block_at-front : (span high : ℕ) (m n : Pages) (p : ℕ) → Rises 0 high n → p < span → block_at (m ++ raised span n) p ≡ block_at m p
block_at-front span high m n p k l = block_at-first (span + 0) (span + high) m (raised span n) p (Rises-raised span 0 high n k) (omega (arith, l))

pub block_at-behind : (span : ℕ) (m n : Pages) (p : ℕ) → Rises 0 span m → block_at (m ++ raised span n) (span + p) ≡ block_at n p
block_at-behind span m n p h = block_at-second 0 span m (raised span n) (span + p) h (omega arith) ∙ block_at-raised span n p

pub is_ready-front : (span high : ℕ) (m n : Pages) (p : ℕ) → Rises 0 high n → p < span → is_ready (m ++ raised span n) p ≡ is_ready m p
is_ready-front span high m n p k l = is_ready-first (span + 0) (span + high) m (raised span n) p (Rises-raised span 0 high n k) (omega (arith, l))

pub is_ready-behind : (span : ℕ) (m n : Pages) (p : ℕ) → Rises 0 span m → is_ready (m ++ raised span n) (span + p) ≡ is_ready n p
is_ready-behind span m n p h = is_ready-second 0 span m (raised span n) (span + p) h (omega arith) ∙ is_ready-raised span n p

pub All-head : {X : Type 0} (P : X → Type 0) (x : X) (xs : List X) → All P (x ∷ xs) → P x
All-head P x xs h = h 0 x (omega arith)

pub Rises-in_row : (span : ℕ) (xs : List Pages) → All (IsNode span) xs → Rises 0 (length xs * span) (in_row span xs)
Rises-in_row span [] h = omega arith
Rises-in_row span (x ∷ xs) h =
    let rest : Rises (span + 0) (span + length xs * span) (raised span (in_row span xs)) = Rises-raised span 0 (length xs * span) (in_row span xs) (Rises-in_row span xs (All-tail (IsNode span) x xs h)) in
    let low : span + 0 ≡ span = omega arith in
    let high : span + length xs * span ≡ length (x ∷ xs) * span = omega arith in
    Rises-append 0 span (length (x ∷ xs) * span) x _ (All-head (IsNode span) x xs h).rises (subst (λ k. Rises span k (raised span (in_row span xs))) high (subst (λ k. Rises k (span + length xs * span) (raised span (in_row span xs))) low rest))

-- a page of the row is one of the node at its place
pub block_at-in_row : (span : ℕ) (xs : List Pages) (i r : ℕ) → All (IsNode span) xs → r < span → block_at (in_row span xs) (i * span + r) ≡ block_at (get_or xs i []) r
block_at-in_row span [] i r h l = refl
block_at-in_row span (x ∷ xs) zero r h l =
    let here : 0 * span + r ≡ r = omega arith in
    ap (block_at (in_row span (x ∷ xs))) here ∙ block_at-front span (length xs * span) x (in_row span xs) r (Rises-in_row span xs (All-tail (IsNode span) x xs h)) l
block_at-in_row span (x ∷ xs) (suc i) r h l =
    let here : suc i * span + r ≡ span + (i * span + r) = omega arith in
    ap (block_at (in_row span (x ∷ xs))) here ∙ block_at-behind span x (in_row span xs) (i * span + r) (All-head (IsNode span) x xs h).rises ∙ block_at-in_row span xs i r (All-tail (IsNode span) x xs h) l

pub is_ready-in_row : (span : ℕ) (xs : List Pages) (i r : ℕ) → All (IsNode span) xs → r < span → is_ready (in_row span xs) (i * span + r) ≡ is_ready (get_or xs i []) r
is_ready-in_row span [] i r h l = refl
is_ready-in_row span (x ∷ xs) zero r h l =
    let here : 0 * span + r ≡ r = omega arith in
    ap (is_ready (in_row span (x ∷ xs))) here ∙ is_ready-front span (length xs * span) x (in_row span xs) r (Rises-in_row span xs (All-tail (IsNode span) x xs h)) l
is_ready-in_row span (x ∷ xs) (suc i) r h l =
    let here : suc i * span + r ≡ span + (i * span + r) = omega arith in
    ap (is_ready (in_row span (x ∷ xs))) here ∙ is_ready-behind span x (in_row span xs) (i * span + r) (All-head (IsNode span) x xs h).rises ∙ is_ready-in_row span xs i r (All-tail (IsNode span) x xs h) l

pub raised-zero : (m : Pages) (by : ℕ) → by ≡ 0 → m ≡ raised by m
raised-zero [] by e = refl
raised-zero (x ∷ xs) by e = (let same : x.0 ≡ by + x.0 = omega (arith, e) in ap (λ (p : ℕ). (p, x.1) ∷ xs) same ∙ ap (λ (ys : Pages). (by + x.0, x.1) ∷ ys) (raised-zero xs by e))

-- rows of which one goes on with the other
pub in_row-append : (span : ℕ) (xs ys : List Pages) → in_row span (xs ++ ys) ≡ in_row span xs ++ raised (length xs * span) (in_row span ys)
in_row-append span [] ys = raised-zero (in_row span ys) (0 * span) (omega arith)
in_row-append span (x ∷ xs) ys =
    let sum : span + length xs * span ≡ length (x ∷ xs) * span = omega arith in
    ap (λ (r : Pages). x ++ raised span r) (in_row-append span xs ys)
    ∙ ap (λ (r : Pages). x ++ r) (raised-append span (in_row span xs) (raised (length xs * span) (in_row span ys)) ∙ ap (λ (r : Pages). raised span (in_row span xs) ++ r) (raised-raised span (length xs * span) (in_row span ys) ∙ ap (λ (k : ℕ). raised k (in_row span ys)) sum))
    ∙ sym (append_assoc x (raised span (in_row span xs)) (raised (length (x ∷ xs) * span) (in_row span ys)))

-- an empty node more at the end
pub push_empty : (xs : List Pages) (j : ℕ) → get_or (xs ++ [] ∷ []) j [] ≡ get_or xs j []
push_empty [] zero = refl
push_empty [] (suc j) = refl
push_empty (x ∷ xs) zero = refl
push_empty (x ∷ xs) (suc j) = push_empty xs j

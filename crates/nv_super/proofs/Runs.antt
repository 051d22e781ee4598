-- Rising runs that don't touch are the only ones of their blocks.
use Rattle.std.proofs.Common.{◌≡◌, ℕ, ◌+◌, ◌<◌, ◌≤◌, inl, inr, List, [], ◌∷◌, refl, ap, sym, arith}
use Rattle.std.specs.List.{Contains}
use Rattle.std.proofs.lemmas.Bool.{cases_order}
use Rattle.nv_super.proofs.Rising.{Contains-cons, Contains-head, Contains-tail}
use Rattle.nv_super.specs.Runs.{Apart, AreRuns}
use Rattle.nv_super.specs.declared.owners.Run.{Run}

-- what is behind the first run is apart too
pub tail_apart : (x : Run) (xs : List Run) → Apart (x ∷ xs) → Apart xs
tail_apart x [] a = tt
tail_apart x (y ∷ xs) a = a.2

-- no run is empty
pub some_blocks : (x : Run) (xs : List Run) → Apart (x ∷ xs) → 0 < x.count
some_blocks x [] a = a
some_blocks x (y ∷ xs) a = a.0

-- behind the first run comes a gap
pub gap : (x : Run) (xs : List Run) → Apart (x ∷ xs) → (y : Run) → Contains xs y → x.start + x.count < y.start
gap x [] a y c = absurd (omega (arith, c.1))
gap x (z ∷ xs) a y c = elim (Contains-cons z xs y c) [
  | inl w ↦ rw w a.1
  | inr w ↦ (let rest = gap z xs a.2 y w in omega (arith, a.1, rest))
]

-- the first block of the first run is the least
least : (P : ℕ → Type 0) (x : Run) (xs : List Run) → AreRuns P (x ∷ xs) → (b : ℕ) → P b → x.start ≤ b
least P x xs r b h =
    let w = r.all b h in
    elim (Contains-cons x xs w.0 w.1) [
      | inl v ↦ (let e = ap (λ (z : Run). z.start) v in omega (arith, e, w.2))
      | inr v ↦ (let g = gap x xs r.apart w.0 v in omega (arith, g, w.2))
    ]

first_in : (P : ℕ → Type 0) (x : Run) (xs : List Run) → AreRuns P (x ∷ xs) → P x.start
first_in P x xs r = let some = some_blocks x xs r.apart in r.each x x.start (Contains-head x xs) (omega arith) (omega (arith, some))

-- the block behind the first run isn't one of them
not_behind : (P : ℕ → Type 0) (x : Run) (xs : List Run) → AreRuns P (x ∷ xs) → P (x.start + x.count) → ⊥
not_behind P x xs r h =
    let w = r.all (x.start + x.count) h in
    elim (Contains-cons x xs w.0 w.1) [
      | inl v ↦ (let e = ap (λ (z : Run). z.start) v in let f = ap (λ (z : Run). z.count) v in omega (arith, e, f, w.3))
      | inr v ↦ (let g = gap x xs r.apart w.0 v in omega (arith, g, w.2))
    ]

-- what the tail has
tail_runs : (P : ℕ → Type 0) (x : Run) (xs : List Run) → AreRuns P (x ∷ xs) → AreRuns (λ b. P b × (x.start + x.count ≤ b)) xs
tail_runs P x xs r = record {
  apart = tail_apart x xs r.apart;
  each = λ y b c low high. (r.each y b (Contains-tail x xs y c) low high, (let g = gap x xs r.apart y c in omega (arith, g, low)));
  all = λ b h. (let w = r.all b h.0 in elim (Contains-cons x xs w.0 w.1) [
    | inl v ↦ absurd (let e = ap (λ (z : Run). z.start) v in let f = ap (λ (z : Run). z.count) v in omega (arith, e, f, w.3, h.1))
    | inr v ↦ (w.0, v, w.2, w.3)
  ]);
}

same_lengths : (P : ℕ → Type 0) (x y : Run) (xs ys : List Run) → AreRuns P (x ∷ xs) → AreRuns P (y ∷ ys) → x.start ≡ y.start → x.count < y.count → ⊥
same_lengths P x y xs ys r q e h = not_behind P x xs r (q.each y (x.start + x.count) (Contains-head y ys) (omega (arith, e)) (omega (arith, e, h)))

same_counts : (P : ℕ → Type 0) (x y : Run) (xs ys : List Run) → AreRuns P (x ∷ xs) → AreRuns P (y ∷ ys) → x.start ≡ y.start → x.count ≡ y.count
same_counts P x y xs ys r q e = elim (cases_order x.count y.count) [
  | inl w ↦ w
  | inr w ↦ elim w [ inl v ↦ absurd (same_lengths P x y xs ys r q e v) | inr v ↦ absurd (same_lengths P y x ys xs q r (sym e) v) ]
]

pub AreRuns-only : (P : ℕ → Type 0) (xs ys : List Run) → AreRuns P xs → AreRuns P ys → xs ≡ ys
AreRuns-only P [] [] r q = refl
AreRuns-only P [] (y ∷ ys) r q = absurd (let w = r.all y.start (first_in P y ys q) in omega (arith, w.1.1))
AreRuns-only P (x ∷ xs) [] r q = absurd (let w = q.all x.start (first_in P x xs r) in omega (arith, w.1.1))
AreRuns-only P (x ∷ xs) (y ∷ ys) r q =
    let starts : x.start ≡ y.start = (let a = least P x xs r y.start (first_in P y ys q) in let b = least P y ys q x.start (first_in P x xs r) in omega (arith, a, b)) in
    let counts : x.count ≡ y.count = same_counts P x y xs ys r q starts in
    let heads : x ≡ y = (λ i. record { start = starts i; count = counts i }) in
    let rest : xs ≡ ys = AreRuns-only (λ b. P b × (x.start + x.count ≤ b)) xs ys (tail_runs P x xs r) (rw heads (tail_runs P y ys q)) in
    cc

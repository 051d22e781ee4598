-- The runs of the blocks of which a test holds.
use Rattle.std.proofs.Common.{◌≡◌, ◌≢◌, ◌⊎◌, inl, inr, ℕ, zero, suc, Bool, true, false, ◌+◌, ◌<◌, ◌≤◌, List, [], ◌∷◌, eqb, refl, sym, ap, ◌∙◌, arith}
use Rattle.std.specs.Prelude.{if◌then◌else◌}
use Rattle.std.specs.List.{Contains}
use Rattle.std.proofs.lemmas.Bool.{cases_eq}
use Rattle.std.proofs.lemmas.Bool.Decides.{eqb_tells}
use Rattle.nv_super.proofs.Rising.{Contains-cons, Contains-head, Contains-tail}
use Rattle.nv_super.proofs.Runs.{some_blocks}
use Rattle.nv_super.specs.declared.owners.Run.{Run}
use Rattle.nv_super.specs.Runs.{Apart, AreRuns}
use Rattle.nv_alloc.specs.FreeRuns.{with_front, runs_where}
use Rattle.nv_alloc.proofs.Changed.{AreRuns-same}

-- The blocks of P, which are all behind one, and that one.
abbrev With : (ℕ → Type 0) → ℕ → ℕ → Type 0
With P here b = (b ≡ here) ⊎ P b

-- the first run is longer by the block that it touches
joined : (P : ℕ → Type 0) (here : ℕ) (r : Run) (rs : List Run) → AreRuns P (r ∷ rs) → here + 1 ≡ r.start → AreRuns (With P here) (record { start = here; count = 1 + r.count } ∷ rs)
joined P here r rs runs touches = record { apart = longer rs runs.apart; each = λ x b c low high. each x b (Contains-cons _ rs x c) low high; all = all }
  where
    longer : (xs : List Run) → Apart (r ∷ xs) → Apart (record { start = here; count = 1 + r.count } ∷ xs)
    longer [] a = omega arith
    longer (x ∷ xs) a = (omega arith, omega (arith, a.1, touches), a.2)

    first : (b : ℕ) → here ≤ b → b < here + (1 + r.count) → (b ≡ here) ⊎ (b ≡ here → ⊥) → With P here b
    first b low high (inl is) = inl is
    first b low high (inr other) = inr (runs.each r b (Contains-head r rs) (omega (arith, low, other, touches)) (omega (arith, high, touches)))

    each : (x : Run) (b : ℕ) → (x ≡ record { start = here; count = 1 + r.count }) ⊎ Contains rs x → x.start ≤ b → b < x.start + x.count → With P here b
    each x b (inl is) low high =
        let s : x.start ≡ here = ap (λ (y : Run). y.start) is in let n : x.count ≡ 1 + r.count = ap (λ (y : Run). y.count) is in
        first b (omega (arith, s, low)) (omega (arith, s, n, high)) (cases_eq b here)
    each x b (inr c) low high = inr (runs.each x b (Contains-tail r rs x c) low high)

    found : (b : ℕ) (x : Run) → (x ≡ r) ⊎ Contains rs x → x.start ≤ b → b < x.start + x.count
        → (y : Run) × Contains (record { start = here; count = 1 + r.count } ∷ rs) y × (y.start ≤ b) × (b < y.start + y.count)
    found b x (inl is) low high =
        let s : x.start ≡ r.start = ap (λ (y : Run). y.start) is in let n : x.count ≡ r.count = ap (λ (y : Run). y.count) is in
        (record { start = here; count = 1 + r.count }, Contains-head _ rs, omega (arith, s, low, touches), omega (arith, s, n, high, touches))
    found b x (inr c) low high = (x, Contains-tail _ rs x c, low, high)

    all : (b : ℕ) → With P here b → (y : Run) × Contains (record { start = here; count = 1 + r.count } ∷ rs) y × (y.start ≤ b) × (b < y.start + y.count)
    all b (inl is) = (record { start = here; count = 1 + r.count }, Contains-head _ rs, omega (arith, is), omega (arith, is))
    all b (inr h) = let w = runs.all b h in found b w.0 (Contains-cons r rs w.0 w.1) w.2 w.3

-- a run of the block alone stands before runs that it doesn't touch
alone : (P : ℕ → Type 0) (here : ℕ) (rs : List Run) → AreRuns P rs → Apart (record { start = here; count = 1 } ∷ rs) → AreRuns (With P here) (record { start = here; count = 1 } ∷ rs)
alone P here rs runs apart = record {
  apart = apart;
  each = λ x b c low high. each x b (Contains-cons _ rs x c) low high;
  all = all;
}
  where
    each : (x : Run) (b : ℕ) → (x ≡ record { start = here; count = 1 }) ⊎ Contains rs x → x.start ≤ b → b < x.start + x.count → With P here b
    each x b (inl is) low high =
        let s : x.start ≡ here = ap (λ (y : Run). y.start) is in let n : x.count ≡ 1 = ap (λ (y : Run). y.count) is in inl (omega (arith, s, n, low, high))
    each x b (inr c) low high = inr (runs.each x b c low high)

    all : (b : ℕ) → With P here b → (y : Run) × Contains (record { start = here; count = 1 } ∷ rs) y × (y.start ≤ b) × (b < y.start + y.count)
    all b (inl is) = (record { start = here; count = 1 }, Contains-head _ rs, omega (arith, is), omega (arith, is))
    all b (inr h) = let w = runs.all b h in (w.0, Contains-tail _ rs w.0 w.1, w.2, w.3)

-- one block more before runs that are all behind it
front_runs : (P : ℕ → Type 0) (here : ℕ) (rs : List Run) → AreRuns P rs → ((b : ℕ) → P b → here < b) → AreRuns (With P here) (with_front here 1 rs)
front_runs P here [] runs behind = alone P here [] runs (omega arith)
front_runs P here (r ∷ rs) runs behind = decide (eqb_tells (here + 1) r.start)
  where
    later : here < r.start
    later = behind r.start (runs.each r r.start (Contains-head r rs) (omega arith) (let some = some_blocks r rs runs.apart in omega (arith, some)))

    decide : ((eqb (here + 1) r.start ≡ true) × (here + 1 ≡ r.start)) ⊎ ((eqb (here + 1) r.start ≡ false) × (here + 1 ≢ r.start))
        → AreRuns (With P here) (if eqb (here + 1) r.start then record { start = here; count = 1 + r.count } ∷ rs else record { start = here; count = 1 } ∷ r ∷ rs)
    decide (inl touches) = rw touches.0 (joined P here r rs runs touches.1)
    decide (inr behind_gap) = rw behind_gap.0 (alone P here (r ∷ rs) runs (omega arith, (let l = later in let n = behind_gap.1 in omega (arith, l, n)), runs.apart))

-- the runs are those of the blocks
pub runs_where-are : (test : ℕ → Bool) (n here : ℕ) → AreRuns (λ b. (here ≤ b) × (b < here + n) × (test b ≡ true)) (runs_where test here n)
runs_where-are test zero here = record {
  apart = tt;
  each = λ x b c low high. absurd (omega (arith, c.1));
  all = λ b h. absurd (let low = h.0 in let high = h.1 in omega (arith, low, high));
}
runs_where-are test (suc n) here = decide (runs_where-are test n (here + 1)) (test here) refl
  where
    decide : AreRuns (λ b. (here + 1 ≤ b) × (b < here + 1 + n) × (test b ≡ true)) (runs_where test (here + 1) n) → (on : Bool) → test here ≡ on
        → AreRuns (λ b. (here ≤ b) × (b < here + suc n) × (test b ≡ true)) (if on then with_front here 1 (runs_where test (here + 1) n) else runs_where test (here + 1) n)
    decide rest true is = AreRuns-same _ _ _
        (λ b h. elim h [
          | inl e ↦ (omega (arith, e), omega (arith, e), ap test e ∙ is)
          | inr w ↦ (let low = w.0 in let high = w.1 in (omega (arith, low), omega (arith, high), w.2))
        ])
        (λ b h. elim (cases_eq b here) [ inl e ↦ inl e | inr ne ↦ inr (let low = h.0 in let high = h.1 in (omega (arith, low, ne), omega (arith, high), h.2)) ])
        (front_runs (λ b. (here + 1 ≤ b) × (b < here + 1 + n) × (test b ≡ true)) here (runs_where test (here + 1) n) rest (λ b h. let low = h.0 in omega (arith, low)))
    decide rest false is = AreRuns-same _ _ _
        (λ b h. let low = h.0 in let high = h.1 in (omega (arith, low), omega (arith, high), h.2))
        (λ b h. elim (cases_eq b here) [
          | inl e ↦ absurd (let on : test here ≡ true = sym (ap test e) ∙ h.2 in cc)
          | inr ne ↦ (let low = h.0 in let high = h.1 in (omega (arith, low, ne), omega (arith, high), h.2))
        ])
        rest

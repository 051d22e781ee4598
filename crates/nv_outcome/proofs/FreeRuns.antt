-- The runs of the blocks of which something holds.
use Rattle.std.proofs.Common.{◌≡◌, ◌≢◌, inl, inr, ℕ, zero, suc, ◌+◌, ◌-◌, ◌<◌, ◌≤◌, List, [], ◌∷◌, ap, sym, subst, arith}
use Rattle.nv_super.specs.declared.owners.Run.{Run}
use Rattle.nv_super.specs.Runs.{Apart, AreRuns}
use Rattle.nv_super.proofs.Rising.{Contains-cons, Contains-head, Contains-tail}
use Rattle.nv_super.proofs.Runs.{some_blocks}
use Rattle.nv_super.proofs.Members.{none_in}
use Rattle.nv_alloc.proofs.Changed.{AreRuns-same}
use Rattle.nv_alloc.proofs.Fronts.{cut_apart}
use Rattle.nv_outcome.proofs.Finite.{Decided, number_is}

module _ (P : ℕ → Type 0) (decide : (b : ℕ) → Decided (P b)) where
  -- one of n blocks from this one on
  Among : ℕ → ℕ → ℕ → Type 0
  Among from n b = (from ≤ b) × (b < from + n) × P b

  among_first : (from n : ℕ) → P from → (b : ℕ) → b ≡ from → Among from (suc n) b
  unfolding Among
  among_first from n p b e = (omega (arith, e), omega (arith, e), subst P (sym e) p)

  among_more : (from n b : ℕ) → Among (suc from) n b → Among from (suc n) b
  unfolding Among
  among_more from n b w = let low = w.0 in let high = w.1 in (omega (arith, low), omega (arith, high), w.2)

  among_less : (from n b : ℕ) → Among from (suc n) b → b ≢ from → Among (suc from) n b
  unfolding Among
  among_less from n b w ne = let low = w.0 in let high = w.1 in (omega (arith, low, ne), omega (arith, high), w.2)

  among_fact : (from n b : ℕ) → Among from n b → P b
  unfolding Among
  among_fact from n b w = w.2

  among_low : (from n b : ℕ) → Among from n b → from ≤ b
  unfolding Among
  among_low from n b w = w.0

  none_among : (from b : ℕ) → Among from 0 b → ⊥
  unfolding Among
  none_among from b w = let low = w.0 in let high = w.1 in omega (arith, low, high)

  -- a block in front of runs, that none of them touches
  alone : (from n : ℕ) → P from → (xs : List Run) → AreRuns (Among (suc from) n) xs → Apart (record { start = from; count = 1 } ∷ xs) → AreRuns (Among from (suc n)) (record { start = from; count = 1 } ∷ xs)
  alone from n p xs are apart = record {
    apart = apart;
    each = λ x b c low high. elim (Contains-cons (record { start = from; count = 1 }) xs x c) [
      | inl e ↦ among_first from n p b (
          let first : x.start ≡ from = ap (λ (r : Run). r.start) e in
          let one : x.count ≡ 1 = ap (λ (r : Run). r.count) e in
          omega (arith, low, high, first, one))
      | inr w ↦ among_more from n b (are.each x b w low high)
    ];
    all = λ b w. elim (number_is b from) [
      | inl e ↦ (record { start = from; count = 1 }, Contains-head (record { start = from; count = 1 }) xs, omega (arith, e), omega (arith, e))
      | inr ne ↦ (let v = are.all b (among_less from n b w ne) in (v.0, Contains-tail (record { start = from; count = 1 }) xs v.0 v.1, v.2, v.3))
    ];
  }

  -- a block that the first run touches
  joined : (from n : ℕ) → P from → (x : Run) (xs : List Run) → x.start ≡ suc from → AreRuns (Among (suc from) n) (x ∷ xs) → AreRuns (Among from (suc n)) (record { start = from; count = suc x.count } ∷ xs)
  joined from n p x xs touches are = record {
    apart = cut_apart x longer xs (omega (arith, touches)) (omega arith) are.apart;
    each = λ y b c low high. elim (Contains-cons longer xs y c) [
      | inl e ↦ (
          let first : y.start ≡ from = ap (λ (r : Run). r.start) e in
          let count : y.count ≡ suc x.count = ap (λ (r : Run). r.count) e in
          elim (number_is b from) [
            | inl same ↦ among_first from n p b same
            | inr ne ↦ among_more from n b (are.each x b (Contains-head x xs) (omega (arith, low, first, ne, touches)) (omega (arith, high, first, count, touches)))
          ])
      | inr w ↦ among_more from n b (are.each y b (Contains-tail x xs y w) low high)
    ];
    all = λ b w. elim (number_is b from) [
      | inl e ↦ (longer, Contains-head longer xs, omega (arith, e), omega (arith, e))
      | inr ne ↦ (
          let v = are.all b (among_less from n b w ne) in
          elim (Contains-cons x xs v.0 v.1) [
            | inl e ↦ (
                let first : v.0.start ≡ x.start = ap (λ (r : Run). r.start) e in
                let count : v.0.count ≡ x.count = ap (λ (r : Run). r.count) e in
                let low = v.2 in let high = v.3 in
                (longer, Contains-head longer xs, omega (arith, low, first, touches), omega (arith, high, first, count, touches)))
            | inr u ↦ (v.0, Contains-tail longer xs v.0 u, v.2, v.3)
          ])
    ];
  } where
    longer : Run
    longer = record { start = from; count = suc x.count }

  one_more : (from n : ℕ) → P from → (xs : List Run) → AreRuns (Among (suc from) n) xs → (ys : List Run) × AreRuns (Among from (suc n)) ys
  one_more from n p [] are = (_, alone from n p [] are (omega arith))
  one_more from n p (x ∷ xs) are = elim (number_is x.start (suc from)) [
    | inl touches ↦ (_, joined from n p x xs touches are)
    | inr ne ↦ (
        let some : 0 < x.count = some_blocks x xs are.apart in
        let low = among_low (suc from) n x.start (are.each x x.start (Contains-head x xs) (omega arith) (omega (arith, some))) in
        (_, alone from n p (x ∷ xs) are (omega arith, omega (arith, low, ne), are.apart)))
  ]

  runs_from : (n from : ℕ) → (xs : List Run) × AreRuns (Among from n) xs
  runs_from zero from = ([], record { apart = tt; each = λ x b c low high. absurd (none_in x c); all = λ b w. absurd (none_among from b w) })
  runs_from (suc n) from = step (decide from) (runs_from n (suc from)) where
    step : Decided (P from) → (xs : List Run) × AreRuns (Among (suc from) n) xs → (xs : List Run) × AreRuns (Among from (suc n)) xs
    step (inl p) rest = one_more from n p rest.0 rest.1
    step (inr never) rest = (
      rest.0,
      AreRuns-same (Among (suc from) n) (Among from (suc n)) rest.0 (among_more from n)
          (λ b w. among_less from n b w (λ e. never (subst P e (among_fact from (suc n) b w)))) rest.1,
    )

  -- The blocks of which it holds, from one to before another, as rising runs.
  pub runs_between : (from to : ℕ) → (xs : List Run) × AreRuns (λ b. (from ≤ b) × (b < to) × P b) xs
  unfolding Among
  runs_between from to = let r = runs_from (to - from) from in (
    r.0,
    AreRuns-same (Among from (to - from)) (λ b. (from ≤ b) × (b < to) × P b) r.0
        (λ b w. (let low = w.0 in let high = w.1 in (w.0, omega (arith, low, high), w.2)))
        (λ b w. (let low = w.0 in let high = w.1 in (w.0, omega (arith, low, high), w.2))) r.1,
  )

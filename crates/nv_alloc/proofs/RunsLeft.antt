-- The runs from a block on: none, or the first of them and those that are left.
use Rattle.std.proofs.Common.{◌≡◌, ℕ, Bool, true, false, ◌-◌, ◌<◌, ◌≤◌, [], ◌∷◌, ◌∙◌, inl, inr, ap, sym, arith}
use Rattle.std.proofs.lemmas.Bool.{cases_lt}
use Rattle.nv_alloc.specs.FreeRuns.{runs_where}
use Rattle.nv_alloc.proofs.RunParts.{no_runs, skip_to}
use Rattle.nv_alloc.proofs.PoolMarks.{run_cut}

differ : true ≡ false → ⊥
differ x = cc

-- the first block from `here` on of which the test holds, and the next of which it doesn't, or the end
module _ (test : ℕ → Bool) (here start end to : ℕ) (low : (here ≤ start) × (start ≤ to)) (before : (b : ℕ) → here ≤ b → b < start → test b ≡ false) (free : start < to → test start ≡ true)
    (order : (start ≤ end) × (end ≤ to)) (on : (b : ℕ) → start ≤ b → b < end → test b ≡ true) (stops : end < to → test end ≡ false) where
  at_end : start ≡ end → to ≤ start
  at_end same = elim (cases_lt start to) [
    | inl w ↦ absurd (differ (sym (free w) ∙ ap test same ∙ stops (omega (arith, w, same))))
    | inr w ↦ w
  ]

  pub none_left : start ≡ end → runs_where test here (to - here) ≡ []
  none_left same = skip_to test here start to low.0 low.1 before ∙ no_runs test start to (at_end same)

  pub none_behind : start ≡ end → runs_where test end (to - end) ≡ []
  none_behind same = no_runs test end to (let past = at_end same in omega (arith, past, same))

  pub next_run : (start ≡ end → ⊥) → runs_where test here (to - here) ≡ record { start = start; count = end - start } ∷ runs_where test end (to - end)
  next_run other =
      skip_to test here start to low.0 low.1 before
      ∙ run_cut test start end end to (omega (arith, order, other)) (free (omega (arith, order, other))) order on stops (omega arith, order.1) (λ b above below. absurd (omega (arith, above, below)))

use Rattle.std.proofs.Common.{◌≡◌, ◌+◌, ◌/◌, ℕ, List, ap, sym, ◌∙◌, subst, arith}
use Rattle.std.specs.List.{slice_range}
use Rattle.nv_super.specs.Runs.{AreRuns}
use Rattle.nv_alloc.specs.FreeRuns.{free_runs}
use Rattle.nv_alloc.specs.Inside.{IsClear}
use Rattle.nv_alloc.proofs.PoolMarks.{made_runs}
use Rattle.nv_alloc.proofs.pool.Pool.between.Goals as goal

pub returns-clause-runs : goal.returns-clause-runs
returns-clause-runs c =
    let P : List ℕ → Type 0 = λ m. AreRuns (IsClear c.args.words.now c.args.from c.args.to) (free_runs m c.args.from c.args.to) in
    let last : c.div_ceil.result ≡ (c.args.to + 63) / 64 = omega (arith, c.div_ceil.ensures) in
    subst P (sym (c.in_ok-marks.ensures ∙ c.in_ok-from_slice.ensures.items ∙ ap (λ (k : ℕ). slice_range c.args.words.now (c.args.from / 64) k) last)) (made_runs c.args.words.now c.args.from c.args.to c.requires.order)

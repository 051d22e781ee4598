use Rattle.std.proofs.Common.{◌≡◌, ◌+◌, ◌-◌, arith, ap, ◌∙◌}
use Rattle.nv_blockset.specs.BlockSet.{has}
use Rattle.nv_alloc.specs.FreeRuns.{word_start}
use Rattle.nv_alloc.proofs.PoolMarks.{free_at, used_at}
use Rattle.nv_alloc.proofs.cutting.next_used.Goals as goal

pub returns-clause-passed : goal.returns-clause-passed
returns-clause-passed c = λ b low high.
    let base = c.word_start-base.ensures in
    free_at c.args.marks.now c.args.first b (c.first_set.ensures.clear (b - word_start c.args.first) (omega (arith, base, low)) (omega (arith, base, low, high, c.requires.order)))

pub returns-clause-found : goal.returns-clause-found
returns-clause-found c = λ lt.
    let base = c.word_start-base.ensures in
    let same : c.word_start-base.result + c.first_set.result - word_start c.args.first ≡ c.first_set.result = omega (arith, base) in
    used_at c.args.marks.now c.args.first _ (ap (has c.args.marks.now) same ∙ c.first_set.ensures.set (omega (arith, lt, base, c.requires.order)))

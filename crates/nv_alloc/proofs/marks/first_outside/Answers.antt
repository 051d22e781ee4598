use Rattle.std.proofs.Common.{arith}
use Rattle.nv_alloc.proofs.SetParts.{passed}
use Rattle.nv_alloc.proofs.marks.first_outside.Goals as goal

pub returns-clause-set : goal.returns-clause-set
returns-clause-set c =
    passed c.args.words.now c.args.full.now c.args.from c.args.to c.min-edge.result c.first_clear-word.result c.min.result c.first_clear.result c.requires.tells c.requires.within
    (omega (arith, c.min-edge.ensures, c.if-edge-to.false)) (omega (arith, c.min-edge.ensures))
    (λ b low below. c.first_clear-here.ensures.set b low (omega (arith, below, c.if-here-edge.false)))
    (omega (arith, c.first_clear-word.ensures.order.1, c.div_ceil.ensures)) c.first_clear-word.ensures.set c.min.ensures c.first_clear.ensures.order.1 c.first_clear.ensures.set

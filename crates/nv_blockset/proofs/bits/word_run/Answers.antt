use Rattle.std.proofs.Common.{arith}
use Rattle.nv_blockset.proofs.WordBits.{all_ones, word_runs}
use Rattle.nv_blockset.proofs.bits.word_run.Goals as goal

pub returns-then-start-eq64-clause-none : goal.returns-then-start-eq64-clause-none
returns-then-start-eq64-clause-none c = all_ones c.args.word c.args.from _ c.ranges.word.fits c.count_zeros.ensures c.if-start-eq64.true

pub returns-clause-some : goal.returns-clause-some
returns-clause-some c = let w = c.count_zeros.ensures.within in word_runs c.args.word c.args.from _ _ c.ranges.word.fits c.count_zeros.ensures (omega (arith, w, c.if-start-eq64.false)) c.count_zeros-2.ensures

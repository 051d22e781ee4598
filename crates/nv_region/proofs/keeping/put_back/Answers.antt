use Rattle.std.proofs.Common.{arith, refl}
use Rattle.nv_region.proofs.Rows.{row_in, no_row}
use Rattle.nv_region.proofs.Before.{row_put_back, all_put_back}
use Rattle.nv_region.proofs.keeping.put_back.Goals as goal

pub loop-row-init : goal.loop-row-init
loop-row-init c = record { as_long = refl; done = λ j i less. absurd (omega (arith, less)); others = λ i away. refl }

pub put_row_back-requires-clause-rises : goal.put_row_back-requires-clause-rises
put_row_back-requires-clause-rises c = c.requires.rows.some _ (row_in c.args.rows.now c.loop-row.row-index no_row c.loop-row-test.true)

pub put_row_back-requires-clause-below : goal.put_row_back-requires-clause-below
put_row_back-requires-clause-below c = omega (arith, c.requires.rows.below _ (row_in c.args.rows.now c.loop-row.row-index no_row c.loop-row-test.true), c.loop-row.invariant.as_long)

pub put_row_back-requires-clause-within : goal.put_row_back-requires-clause-within
put_row_back-requires-clause-within c = omega (arith, c.requires.rows.within _ (row_in c.args.rows.now c.loop-row.row-index no_row c.loop-row-test.true), c.loop-row.invariant.as_long)

pub loop-row-preserved : goal.loop-row-preserved
loop-row-preserved c =
    row_put_back c.args.rows.now c.args.kept.now c.args.words.now c.loop-row.words c.put_row_back.new.words c.loop-row.row-index c.requires.rows c.loop-row-test.true c.put_row_back.ensures.as_long c.put_row_back.ensures.here
    c.put_row_back.ensures.others c.loop-row.invariant

pub returns : goal.returns
returns c = all_put_back c.args.rows.now c.args.kept.now c.args.words.now c.loop-row.words c.loop-row.row-index (omega (arith, c.loop-row-test.false)) c.loop-row.invariant

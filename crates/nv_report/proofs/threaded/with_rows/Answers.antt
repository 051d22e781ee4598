use Rattle.nv_report.proofs.TextLemmas.{adds_none, adds_next}
use Rattle.nv_report.proofs.threaded.with_rows.Goals as goal

pub loop-row-init : goal.loop-row-init
loop-row-init c = adds_none _

pub loop-row-preserved : goal.loop-row-preserved
loop-row-preserved c = adds_next (λ row. row.now) c.args.rows.now c.loop-row.row-index c.row-item.result _ _ _ c.loop-row-test.true c.row-item.is c.loop-row.invariant c.in_ok-push_row.ensures

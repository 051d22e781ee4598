use Rattle.nv_image_files.proofs.Squares.{cell_more, no_cells}
use Rattle.nv_image_files.proofs.drawing.push_cells.Goals as goal

pub loop-place-preserved : goal.loop-place-preserved
loop-place-preserved c = cell_more _ _ _ _ c.args.shares.now c.loop-place.place _ c.loop-place-test.true c.loop-place.invariant c.in_ok-push_number_at.ensures c.in_ok-push_cell.ensures

pub returns : goal.returns
returns c = no_cells _ _ c.args.shares.now c.loop-place.place c.loop-place-test.false c.loop-place.invariant

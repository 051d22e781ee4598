use Rattle.nv_text.proofs.FreeLines.{free_lines-take, added_both}
use Rattle.nv_text.proofs.free.push_free_lines.Goals as goal

pub loop-cpu-preserved : goal.loop-cpu-preserved
loop-cpu-preserved c =
    rw (free_lines-take _ _ c.loop-cpu.cpu c.index-pools-cpu.result c.loop-cpu-test.true c.index-pools-cpu.is, ← c.deref.ensures.value)
    (added_both _ _ _ _ _ c.loop-cpu.invariant c.in_ok-push_free_line.ensures)

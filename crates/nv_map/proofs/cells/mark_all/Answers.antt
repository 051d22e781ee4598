use Rattle.std.proofs.Common.{subst}
use Rattle.nv_outcome.specs.Answer.{outcome_of}
use Rattle.nv_map.specs.declared.uses.BlockUse.TheVariants.{System}
use Rattle.nv_map.specs.Marks.{AreUsed, Raises, SaysOne, SaysClaim}
use Rattle.nv_map.proofs.Says.{raises_chains, raises_doubled}
use Rattle.nv_map.proofs.Made.{raises_all, are_cells}
use Rattle.nv_map.proofs.cells.mark_all.Goals as goal

pub returns : goal.returns
returns c =
    let o = outcome_of c.args.recovered.now in
    let m = c.in_ok-marks.marks in
    let first = subst (λ n. Raises (AreUsed 0 n System) m c.mark.new.self) c.system_blocks.ensures c.mark.ensures in
    let chains = raises_chains o.tables c.mark.new.self c.mark_tables.new.self c.mark_tables.ensures in
    let claims = subst (λ doubled. Raises (SaysOne SaysClaim doubled) c.mark_rows.new.self c.mark_doubled.new.self) c.deref.ensures.value c.mark_doubled.ensures in
    let last = raises_doubled o.doubled c.mark_rows.new.self c.mark_doubled.new.self claims in
    are_cells o c.args.most m c.mark_doubled.new.self c.in_ok-marks.ensures.free c.in_ok-marks.ensures.room
    (raises_all o m c.mark.new.self c.mark_tables.new.self c.mark_rows.new.self c.mark_doubled.new.self first chains c.in_ok-mark_rows.ensures last)

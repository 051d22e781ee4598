use Rattle.std.proofs.Common.{arith, ap, ℕ, length}
use Rattle.std.proofs.lemmas.List.{length-replicate}
use Rattle.nv_blockset.proofs.Lists.{none_set}
use Rattle.nv_region.proofs.Marks.{none_marked}
use Rattle.nv_region.proofs.stored.StoredLines.new.Goals as goal

pub invariant_of-result : goal.invariant_of-result
invariant_of-result c =
    let n : ℕ = c.words_for.result in
    none_marked _ c.in_ok-with_capacity.ensures.items c.in_ok-with_capacity-2.ensures.items c.requires
    (omega (arith, ap length c.in_ok-no_marks.ensures, length-replicate {A = ℕ} n 0, c.words_for.ensures, c.lines_of-lines.ensures))
    (omega (arith, c.in_ok-with_capacity.ensures.exact, c.lines_of-lines.ensures)) (omega (arith, c.in_ok-with_capacity-2.ensures.exact, c.lines_of-lines.ensures))
    (none_set _ n c.in_ok-no_marks.ensures)

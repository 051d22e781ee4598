use Rattle.std.proofs.Common.{◌≤◌}
use Rattle.nv_image_check.proofs.several.check_files.Given as goal

abbrev pub invariant-loop-path : goal.invariant-loop-path
invariant-loop-path g l = l.greatest ≤ 2

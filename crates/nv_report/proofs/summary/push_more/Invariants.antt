use Rattle.std.proofs.Common.{◌≡◌, ◌++◌, map, take, string_bytes}
use Rattle.nv_report.specs.Summary.{class_and_count, more_text}
use Rattle.nv_report.proofs.summary.push_more.Given as goal

abbrev pub invariant-loop-sum : goal.invariant-loop-sum
invariant-loop-sum l = string_bytes l.out ≡ string_bytes l.fn.out ++ more_text (map class_and_count (take l.sum-index l.sums))

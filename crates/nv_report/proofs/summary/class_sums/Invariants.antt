use Rattle.std.proofs.Common.{◌≡◌, map, take}
use Rattle.std.specs.List.{filter}
use Rattle.nv_super.specs.Classes.{fault_class_names}
use Rattle.nv_report.specs.Summary.{class_and_count, class_sum, is_some_sum}
use Rattle.nv_report.proofs.summary.class_sums.Given as goal

abbrev pub invariant-loop-number : goal.invariant-loop-number
invariant-loop-number l = map class_and_count l.sums.items ≡ filter is_some_sum (take l.number (map (class_sum l.faults) fault_class_names))

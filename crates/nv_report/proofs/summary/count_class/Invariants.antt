use Rattle.std.proofs.Common.{◌≡◌, take}
use Rattle.std.specs.Prelude.{bytes_eq, count_by}
use Rattle.nv_super.specs.Classes.{class_of}
use Rattle.nv_report.proofs.summary.count_class.Given as goal

abbrev pub invariant-loop-fault : goal.invariant-loop-fault
invariant-loop-fault l = l.count ≡ count_by (λ fault. bytes_eq (class_of fault) l.class) (take l.fault-index l.faults)

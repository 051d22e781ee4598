use Rattle.std.proofs.Common.{◌≡◌, ◌++◌, take, flat_map, string_bytes}
use Rattle.nv_text.specs.Faults.{fault_line}
use Rattle.nv_text.proofs.faults.push_fault_lines.Given as goal

abbrev pub invariant-loop-fault : goal.invariant-loop-fault
invariant-loop-fault l = string_bytes l.out ≡ string_bytes l.fn.out ++ flat_map fault_line (take l.fault-index l.faults)

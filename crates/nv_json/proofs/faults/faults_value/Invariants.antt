use Rattle.std.proofs.Common.{◌≡◌, map, take}
use Rattle.serde_json.specs.View.{view}
use Rattle.nv_json.specs.Json.{fault_data}
use Rattle.nv_json.proofs.faults.faults_value.Given as goal

abbrev pub invariant-loop-fault : goal.invariant-loop-fault
invariant-loop-fault l = map view l.items.items ≡ map fault_data (take l.fault-index l.faults)

use Rattle.std.proofs.Common.{◌≡◌, map, take}
use Rattle.serde_json.specs.View.{view}
use Rattle.nv_json.specs.Json.{run_data}
use Rattle.nv_json.proofs.lists.runs_value.Given as goal

abbrev pub invariant-loop-run : goal.invariant-loop-run
invariant-loop-run l = map view l.items.items ≡ map run_data (take l.run-index l.runs)

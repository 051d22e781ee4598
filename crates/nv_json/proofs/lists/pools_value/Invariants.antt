use Rattle.std.proofs.Common.{◌≡◌, map, take}
use Rattle.serde_json.specs.View.{view}
use Rattle.nv_json.specs.Json.{pool_data}
use Rattle.nv_json.proofs.lists.pools_value.Given as goal

abbrev pub invariant-loop-runs : goal.invariant-loop-runs
invariant-loop-runs l = map view l.items.items ≡ map pool_data (map (λ runs. runs.items) (take l.runs-index l.pools))

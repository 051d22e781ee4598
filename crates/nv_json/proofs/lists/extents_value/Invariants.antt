use Rattle.std.proofs.Common.{◌≡◌, map, take}
use Rattle.serde_json.specs.View.{view}
use Rattle.nv_json.specs.Json.{extent_data}
use Rattle.nv_json.proofs.lists.extents_value.Given as goal

abbrev pub invariant-loop-extent : goal.invariant-loop-extent
invariant-loop-extent l = map view l.items.items ≡ map extent_data (take l.extent-index l.extents)

use Rattle.std.proofs.Common.{◌≡◌, map, take}
use Rattle.serde_json.specs.View.{view}
use Rattle.nv_json.specs.Json.{num}
use Rattle.nv_json.proofs.lists.blocks_value.Given as goal

abbrev pub invariant-loop-block : goal.invariant-loop-block
invariant-loop-block l = map view l.items.items ≡ map num (take l.block-index l.blocks)

use Rattle.std.proofs.Common.{◌≡◌, map, take}
use Rattle.nv_names.specs.Names.{line_of}
use Rattle.serde_json.specs.View.{view}
use Rattle.nv_json.specs.Json.{name_data}
use Rattle.nv_json.proofs.inodes.names_value.Given as goal

abbrev pub invariant-loop-named : goal.invariant-loop-named
invariant-loop-named l = map view l.items.items ≡ map name_data (map line_of (take l.named-index l.listed))

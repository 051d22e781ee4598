use Rattle.std.proofs.Common.{◌≡◌, map, take}
use Rattle.nv_untar.specs.Items.{item_of}
use Rattle.nv_host.specs.Items.{item_said}
use Rattle.nv_host.proofs.items.items_of.Given as goal

abbrev pub invariant-loop-one : goal.invariant-loop-one
invariant-loop-one l = map item_of l.items.items ≡ map (item_said l.time) (take l.one-index l.held)

use Rattle.std.proofs.Common.{◌≡◌, ◌++◌, take, flat_map, string_bytes}
use Rattle.nv_block.specs.Block.{owner_line}
use Rattle.nv_block.proofs.text.push_each.Given as goal

abbrev pub invariant-loop-owner : goal.invariant-loop-owner
invariant-loop-owner l = string_bytes l.out ≡ string_bytes l.fn.out ++ flat_map (owner_line l.block) (take l.owner-index l.owners)

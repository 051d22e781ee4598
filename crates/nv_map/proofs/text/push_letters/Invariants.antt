use Rattle.std.proofs.Common.{◌≡◌, ◌++◌, take, string_bytes}
use Rattle.nv_map.specs.Text.{letters}
use Rattle.nv_map.proofs.text.push_letters.Given as goal

abbrev pub invariant-loop-kind : goal.invariant-loop-kind
invariant-loop-kind l = string_bytes l.out ≡ string_bytes l.fn.out ++ letters (take l.kind-index l.uses)

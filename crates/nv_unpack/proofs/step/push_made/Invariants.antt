use Rattle.std.proofs.Common.{◌≡◌, ◌++◌, map, take}
use Rattle.nv_unpack.specs.declared.step.Step.TheVariants.{Make}
use Rattle.nv_unpack.proofs.step.push_made.Given as goal

abbrev pub invariant-loop-item : goal.invariant-loop-item
invariant-loop-item l = l.steps.items ≡ l.initial.steps.items ++ map Make (take l.item-index l.items)

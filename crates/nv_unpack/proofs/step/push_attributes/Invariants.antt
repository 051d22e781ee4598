use Rattle.std.proofs.Common.{◌≡◌, ◌++◌, map, take}
use Rattle.std.specs.List.{filter}
use Rattle.nv_unpack.specs.declared.step.Step.TheVariants.{SetAttributes}
use Rattle.nv_unpack.specs.Steps.{is_directory_item}
use Rattle.nv_unpack.proofs.step.push_attributes.Given as goal

abbrev pub invariant-loop-item : goal.invariant-loop-item
invariant-loop-item l = l.steps.items ≡ l.initial.steps.items ++ map SetAttributes (filter is_directory_item (take l.item-index l.items))

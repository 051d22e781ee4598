use Rattle.std.proofs.Common.{◌≡◌, ◌++◌, take}
use Rattle.std.specs.List.{filter_map}
use Rattle.nv_cross_check.specs.Steps.{count_fault}
use Rattle.nv_cross_check.proofs.counts.push_counts.Given as goal

abbrev pub invariant-loop-place : goal.invariant-loop-place
invariant-loop-place l = l.faults.items ≡ l.initial.faults.items ++ filter_map (count_fault l.listings) (take l.place l.listings)

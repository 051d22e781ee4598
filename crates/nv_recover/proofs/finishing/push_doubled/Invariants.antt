use Rattle.std.proofs.Common.{◌≡◌, ◌++◌, map, take}
use Rattle.nv_outcome.specs.Parts.{double_fault}
use Rattle.nv_recover.proofs.finishing.push_doubled.Given as goal

abbrev pub invariant-loop-claim : goal.invariant-loop-claim
invariant-loop-claim l = l.faults.items ≡ l.fn.faults.items ++ map double_fault (take l.claim-index l.doubled)

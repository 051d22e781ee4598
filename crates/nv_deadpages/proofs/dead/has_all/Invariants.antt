use Rattle.std.proofs.Common.{◌<◌, ℕ, map}
use Rattle.nv_names.specs.Names.{HasNames, line_of}
use Rattle.nv_deadpages.proofs.SameIndexes.{IsFound}
use Rattle.nv_deadpages.proofs.dead.has_all.Given as goal

-- the names before this one are found
abbrev pub invariant-loop-k : goal.invariant-loop-k
invariant-loop-k l = record {
  listed : HasNames l.of (map line_of l.listed.items);
  found : (j : ℕ) → j < l.k → IsFound l.index l.listed.items j;
}

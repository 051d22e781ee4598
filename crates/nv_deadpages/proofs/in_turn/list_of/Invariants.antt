use Rattle.std.proofs.Common.{◌≡◌, ◌<◌, ℕ, take, true}
use Rattle.std.specs.List.{list_any}
use Rattle.std.proofs.Math.Dec.{eqb}
use Rattle.nv_deadpages.proofs.in_turn.list_of.Given as goal

-- the blocks before this place are in the list
abbrev pub invariant-loop-k : goal.invariant-loop-k
invariant-loop-k l = record {
  bound : l.list.bound ≡ l.sup.blocks;
  same : l.list.blocks ≡ take l.k l.blocks;
  below : (b : ℕ) → list_any (eqb b) l.list.blocks ≡ true → b < l.sup.blocks;
}

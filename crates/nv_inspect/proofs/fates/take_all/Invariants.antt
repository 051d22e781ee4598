use Rattle.std.proofs.Common.{◌≡◌, length, take}
use Rattle.nv_inspect.specs.Held.{AreTakers, HoldsAll}
use Rattle.nv_inspect.proofs.fates.take_all.Given as goal

-- the entries so far are taken
abbrev pub invariant-loop-place : goal.invariant-loop-place
invariant-loop-place l = record {
  held : HoldsAll l.sup l.kind l.created (take l.place l.entries) l.held;
  takers : AreTakers l.sup l.kind l.created (take l.place l.entries) l.takers;
  long : length l.takers ≡ length l.fn.takers;
}

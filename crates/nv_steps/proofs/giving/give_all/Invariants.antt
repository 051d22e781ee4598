use Rattle.std.proofs.Common.{◌≡◌, ◌+◌, ◌≤◌, drop}
use Rattle.nv_alloc.specs.FreeValue.{FreeLists}
use Rattle.nv_alloc.specs.FreeLists.{JoinAll}
use Rattle.nv_steps.specs.Writes.{CanGive}
use Rattle.nv_steps.proofs.giving.give_all.Given as goal

-- Giving the other runs gives them all.
abbrev pub invariant-loop-run : goal.invariant-loop-run
invariant-loop-run l = ((final : FreeLists) → JoinAll l.free (drop l.run-index l.runs) final → JoinAll l.initial.free l.runs final) × CanGive l.free (drop l.run-index l.runs) × (l.free.sup ≡ l.initial.free.sup) × (l.initial.free.room ≤ l.free.room + l.run-index)

use Rattle.std.proofs.Common.{◌≡◌, ◌≤◌, true, take, length}
use Rattle.nv_claimcore.specs.Events.{start, all_allowed, after_all}
use Rattle.nv_claimcore.proofs.history.run.Given as goal

abbrev pub invariant-loop-place : goal.invariant-loop-place
invariant-loop-place l = (l.place ≤ length l.events) × (all_allowed l.sizes (start l.sizes) (take l.place l.events) ≡ true) × (l.state ≡ after_all (start l.sizes) (take l.place l.events))

use Rattle.std.proofs.Common.{◌≡◌, ◌+◌, ◌-◌, ◌≤◌, drop, length}
use Rattle.nv_claimcore.specs.Claims.{place_of}
use Rattle.nv_claimcore.proofs.worker.first_unmarked.Given as goal

abbrev pub invariant-loop-place : goal.invariant-loop-place
invariant-loop-place l = (l.place ≤ length l.records) × (place_of l.block l.records ≡ l.place + place_of l.block (drop l.place l.records))

abbrev pub decreases-loop-place : goal.decreases-loop-place
decreases-loop-place l = length l.records - l.place

use Rattle.std.proofs.Common.{◌≡◌, ◌≤◌, None, false, length, replicate}
use Rattle.nv_claimcore.proofs.schedule.Progress.new.Given as goal

abbrev pub invariant-loop : goal.invariant-loop
invariant-loop l = (l.counter ≤ l.end) × (l.end ≡ l.fn.sizes.workers) × (l.paces.items ≡ replicate l.counter record { ticket = length l.work; made = 0; lost = None; ended = false })

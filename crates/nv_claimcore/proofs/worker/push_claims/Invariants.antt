use Rattle.std.proofs.Common.{◌≡◌, ◌+◌, ◌≤◌, ◌++◌}
use Rattle.std.specs.Vec.{vec_len, vec_capacity}
use Rattle.nv_super.specs.Owners.{pairs}
use Rattle.nv_claimcore.specs.Spans.{claims_in}
use Rattle.nv_claimcore.proofs.worker.push_claims.Given as goal

abbrev pub invariant-loop-place : goal.invariant-loop-place
invariant-loop-place l = (l.place ≤ l.run.count) × (l.records.items ≡ l.fn.records.items ++ claims_in l.found (pairs l.run.start l.owner l.place)) × (vec_len l.records ≡ vec_len l.fn.records + l.place) × (vec_capacity l.records ≡ vec_capacity l.fn.records)

use Rattle.std.proofs.Common.{◌*◌, ◌<◌, ℕ, length}
use Rattle.nv_super.specs.declared.owners.Owner.{Owner}
use Rattle.nv_claimmap.specs.ClaimedRuns.{run_pairs}
use Rattle.nv_cross_check.proofs.FoundInRuns.{flat_each}
use Rattle.nv_cross_check.proofs.owners.find_in_runs.Goals as goal

pub find_in_run-requires-clause-covers : goal.find_in_run-requires-clause-covers
find_in_run-requires-clause-covers c = flat_each (λ (x : ℕ × Owner). x.0 < 64 * length c.args.second.now) run_pairs c.args.runs.now c.loop-run.run-index _ c.loop-run-test.true c.requires.covers

use Rattle.std.proofs.Common.{◌≡◌, ◌+◌, ◌++◌, drop, vec_len, vec_capacity}
use Rattle.nv_alloc.specs.Taking.{blocks_in}
use Rattle.nv_steps.specs.Writes.{run_entries}
use Rattle.nv_steps.proofs.planning.push_entries.Given as goal

abbrev pub invariant-loop-run : goal.invariant-loop-run
invariant-loop-run l = (l.entries.items ++ run_entries l.plan l.page (drop l.run-index l.runs) ≡ l.initial.entries.items ++ run_entries l.plan l.first l.runs) × (l.page + blocks_in (drop l.run-index l.runs) ≡ l.first + blocks_in l.runs)
    × (vec_len l.entries ≡ vec_len l.initial.entries + l.run-index) × (vec_capacity l.entries ≡ vec_capacity l.initial.entries)

use Rattle.std.proofs.Common.{◌≡◌, ◌<◌, ◌≤◌, ℕ, None}
use Rattle.nv_paths.specs.Seen.{tree_of}
use Rattle.nv_history.specs.Making.{lowest_unused}
use Rattle.nv_unpack.proofs.turns.cpu_between.Given as goal

abbrev pub invariant-loop-cpu : goal.invariant-loop-cpu
invariant-loop-cpu l = (cpu : ℕ) → l.from ≤ cpu → cpu < l.cpu → lowest_unused l.mount.sup (tree_of l.mount.memory.region l.mount.rows) cpu ≡ None

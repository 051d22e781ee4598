use Rattle.nv_usage.specs.Usage.{IsCount}
use Rattle.nv_usage.proofs.usage.count_blocks.Given as goal

-- the members so far were counted
abbrev pub invariant-loop-place : goal.invariant-loop-place
invariant-loop-place l = IsCount l.rows.items l.members l.place l.count

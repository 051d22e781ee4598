use Rattle.std.proofs.Common.{◌≡◌, ◌+◌, ◌-◌, ◌≤◌, ◌++◌, vec_len, vec_capacity}
use Rattle.nv_steps.specs.Writes.{page_blocks}
use Rattle.nv_steps.proofs.planning.push_blocks.Given as goal

abbrev pub invariant-loop-page : goal.invariant-loop-page
invariant-loop-page l = (l.runs.items ≡ l.initial.runs.items ++ page_blocks l.index l.first (l.page - l.first)) × (vec_len l.runs + l.first ≤ vec_len l.initial.runs + l.page) × (vec_capacity l.runs ≡ vec_capacity l.initial.runs) × (l.first ≤ l.page)

use Rattle.std.proofs.Common.{◌≤◌, ◌-◌, ◌⊎◌}
use Rattle.nv_steps.specs.Given.{GivesPages}
use Rattle.nv_steps.proofs.giving.give_pages.Given as goal

abbrev pub invariant-loop-page : goal.invariant-loop-page
invariant-loop-page l = (l.initial.first ≤ l.page) × GivesPages l.initial.free l.index l.initial.first l.page l.free × (l.end - l.page ≤ l.free.room) × ((l.page ≤ l.end) ⊎ (l.page ≤ l.initial.first))

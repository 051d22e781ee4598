use Rattle.nv_super.specs.Owners.{pairs}
use Rattle.nv_claimcore.specs.Spans.{lost_in}
use Rattle.nv_claimmap.proofs.steps.claim_part.Given as goal

abbrev pub ghosts-claim_step : goal.ghosts-claim_step
ghosts-claim_step a = record { claims = pairs a._start a._owner a._count }

abbrev pub ghosts-mark_step : goal.ghosts-mark_step
ghosts-mark_step a = record { claims = lost_in a._found (pairs a._start a._owner a._count) }

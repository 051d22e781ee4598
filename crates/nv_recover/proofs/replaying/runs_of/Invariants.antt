use Rattle.std.proofs.Common.{◌≡◌, take}
use Rattle.nv_scan.specs.Work.{claims_among}
use Rattle.nv_recover.proofs.replaying.runs_of.Given as goal

abbrev pub invariant-loop-claims : goal.invariant-loop-claims
invariant-loop-claims l = l.runs.items ≡ claims_among (take l.claims-index l.each)

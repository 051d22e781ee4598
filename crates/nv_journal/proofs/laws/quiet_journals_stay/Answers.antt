use Rattle.nv_journal.proofs.Wrote.{quiet_outside}
use Rattle.nv_journal.proofs.laws.quiet_journals_stay.Goals as goal

pub returns : goal.returns
returns c s R cpu i x layout below quiet = quiet_outside s R cpu layout below quiet i x

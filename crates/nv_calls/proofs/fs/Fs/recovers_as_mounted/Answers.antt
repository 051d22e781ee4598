use Rattle.nv_calls.proofs.Stopped.{stays_itself}
use Rattle.nv_calls.proofs.fs.Fs.recovers_as_mounted.Goals as goal

pub returns : goal.returns
returns g c runs writes = stays_itself c.keeps.ensures runs writes _ (c.nothing_is_pending.ensures runs)

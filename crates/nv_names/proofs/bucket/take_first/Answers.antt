use Rattle.nv_names.proofs.First.{keyed-taken}
use Rattle.nv_names.proofs.bucket.take_first.Goals as goal

pub returns-clause-keyed : goal.returns-clause-keyed
returns-clause-keyed c = keyed-taken c.args.first.now.entries c.remove-had.new.self.entries _ c.remove-had.ensures.entries c.requires.keyed

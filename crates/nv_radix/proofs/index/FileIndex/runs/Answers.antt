use Rattle.nv_radix.proofs.OnlyExtents.{AreExtents-only}
use Rattle.nv_radix.proofs.index.FileIndex.runs.Goals as goal

pub returns-clause-only : goal.returns-clause-only
returns-clause-only c = λ others h. AreExtents-only c.args.self.now others _ h c.in_ok-runs_into.ensures

use Rattle.nv_calls.proofs.NeedsExist.{write_needs}
use Rattle.nv_calls.proofs.fs.Fs.write_needs.Goals as goal

pub returns : goal.returns
returns g c = write_needs (g.P.Pmem.region c.args.self.now.memory) c.args.self.now

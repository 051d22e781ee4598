use Rattle.std.proofs.Common.{◌<◌, subst, sym}
use Rattle.nv_calls.specs.Mount.{Mount}
use Rattle.nv_calls.proofs.Asked.{low_pools}
use Rattle.nv_calls.proofs.fs.Fs.free_runs.Goals as goal

-- the free lists are those of the superblock
pub runs-requires : goal.runs-requires
runs-requires g c = low_pools c.self.invariant.0 c.cpu.inside.0 (subst (λ (m : Mount g.row.P.Denot). c.cpu.inside.0 < m.sup.cpus) (sym c.self.view_is) (rw c.cpu.view_is c.requires))

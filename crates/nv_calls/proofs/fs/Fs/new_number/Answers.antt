use Rattle.std.proofs.Common.{◌<◌, subst, sym}
use Rattle.nv_calls.specs.Mount.{Mount}
use Rattle.nv_calls.proofs.fs.Fs.new_number.Goals as goal

pub new_number-requires-clause-cpu : goal.new_number-requires-clause-cpu
new_number-requires-clause-cpu g c = subst (λ (m : Mount g.row.P.Denot). c.cpu.inside.0 < m.sup.cpus) (sym c.self.view_is) (rw c.cpu.view_is c.requires)

pub new_number-requires-clause-numbers : goal.new_number-requires-clause-numbers
new_number-requires-clause-numbers g c = c.self.invariant.1

pub returns : goal.returns
returns g c = rw (← c.self.view_is, ← c.cpu.view_is) c.new_number.ensures

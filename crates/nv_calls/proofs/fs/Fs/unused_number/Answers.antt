use Rattle.std.proofs.Common.{◌∙◌, ◌<◌, subst, sym}
use Rattle.nv_super.specs.declared.superblock.Super.{Super}
use Rattle.nv_rows.proofs.TableNumbers.{lowest_in}
use Rattle.nv_calls.specs.Mount.{Mount}
use Rattle.nv_calls.proofs.fs.Fs.unused_number.Goals as goal

-- the rows have the numbers of the tables
pub lowest_unused-requires : goal.lowest_unused-requires
lowest_unused-requires g c =
    let numbers = c.self.invariant.1 in
    subst (λ (s : Super). c.cpu.inside.0 < s.cpus) (sym numbers.sup) (subst (λ (m : Mount g.row.P.Denot). c.cpu.inside.0 < m.sup.cpus) (sym c.self.view_is) (rw c.cpu.view_is c.requires))

pub returns : goal.returns
returns g c = rw (← c.self.view_is, ← c.cpu.view_is) (c.lowest_unused.ensures ∙ lowest_in c.self.inside.tables.layout c.self.inside.rows c.cpu.inside.0 c.self.invariant.1 (lowest_unused-requires g c.before))

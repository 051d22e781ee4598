use Rattle.std.proofs.Common.{IfOk, subst}
use Rattle.std.specs.List.{Contains}
use Rattle.std.specs.Result.{result_err}
use Rattle.nv_calls.specs.Mount.{Mount}
use Rattle.nv_calls.proofs.Kept.{refused_as}
use Rattle.nv_calls.proofs.RowChange.{each_there}
use Rattle.nv_calls.proofs.fs.Fs.target.Goals as goal

pub returns-clause-held : goal.returns-clause-held
returns-clause-held g c = subst (λ (m : Mount g.row.P.Denot). IfOk c.row_at.result (λ r. Contains m.rows r.now)) c.self.view_is (each_there c.self.inside.rows.items c.row_at.result c.row_at.ensures.held)

pub returns-clause-refused : goal.returns-clause-refused
returns-clause-refused g c runs p says = refused_as g.P.Pmem.region p (result_err c.row_at.result) c.self.view_is (c.row_at.ensures.refused (g.P.Pmem.region c.self.inside.memory) p says)

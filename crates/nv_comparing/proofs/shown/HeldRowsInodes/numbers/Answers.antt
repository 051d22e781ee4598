use Rattle.std.proofs.Common.{List, ℕ, sym, subst}
use Rattle.std.specs.List.{Contains}
use Rattle.std.proofs.lemmas.Result.{IfOk-weaker}
use Rattle.nv_archive.proofs.Shows.{used_number}
use Rattle.nv_comparing.proofs.shown.HeldRowsInodes.numbers.Goals as goal

pub returns : goal.returns
returns g c = IfOk-weaker c.inode_numbers.result _ _ (λ numbers are i used. subst (λ (l : List ℕ). Contains l i) (sym are) (used_number (g.P.Pmem.region c.args.self.now.memory.now) c.args.self.now.rows.now.items i used)) c.inode_numbers.ensures

use Rattle.std.proofs.Common.{inr}
use Rattle.std.proofs.lemmas.Result.{IfOk-weaker}
use Rattle.nv_paths.specs.Seen.{tree_of}
use Rattle.nv_logs.proofs.Looks.{shown_told}
use Rattle.nv_logs.proofs.looking.look_in.Goals as goal

pub returns-in-Ok-clause-told : goal.returns-in-Ok-clause-told
returns-in-Ok-clause-told g c R =
    let rows = c.args.found.now.rows.items in
    shown_told (tree_of R rows) (g.P.Pmem.region c.args.memory.now) c.args.found.now.sup rows c.args.inode.now c.in-Ok.row.now (c.in-Ok.ensures.row R) c.shown_look.result c.shown_look.ensures.text c.shown_look.ensures.status

pub returns-in-Err-clause-told : goal.returns-in-Err-clause-told
returns-in-Err-clause-told g c R = IfOk-weaker c.refused_look.result _ _ (λ look said. inr (c.in-Err.refusal, c.in-Err.ensures.refused R, said)) c.refused_look.ensures.refused

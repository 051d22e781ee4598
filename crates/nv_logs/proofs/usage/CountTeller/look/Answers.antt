use Rattle.std.proofs.Common.{[], inl, inr}
use Rattle.std.proofs.lemmas.Result.{IfOk-weaker}
use Rattle.nv_region.specs.Region.{region_of}
use Rattle.nv_paths.specs.Seen.{tree_of}
use Rattle.nv_logs.proofs.AskedRows.{asked_used}
use Rattle.nv_logs.proofs.usage.CountTeller.look.Goals as goal

pub count_look-requires : goal.count_look-requires
count_look-requires c = asked_used (tree_of (region_of []) c.args.found.now.rows.items) c.args.found.now.rows.items c.args.self.now.inode.now c.in-Ok.row.now (c.in-Ok.ensures.row (region_of []))

pub returns-in-Ok-clause-told : goal.returns-in-Ok-clause-told
returns-in-Ok-clause-told c R = IfOk-weaker c.count_look.result _ _ (λ look told. inl (c.in-Ok.row.now, c.in-Ok.ensures.row R, told)) c.count_look.ensures.told

pub returns-in-Err-clause-told : goal.returns-in-Err-clause-told
returns-in-Err-clause-told c R = IfOk-weaker c.refused_look.result _ _ (λ look said. inr (c.in-Err.refusal, c.in-Err.ensures.refused R, said)) c.refused_look.ensures.refused

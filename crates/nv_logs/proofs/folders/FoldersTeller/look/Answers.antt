use Rattle.std.proofs.Common.{[], inl, inr}
use Rattle.std.proofs.lemmas.Result.{IfOk-weaker}
use Rattle.nv_region.specs.Region.{region_of}
use Rattle.nv_paths.specs.Seen.{tree_of}
use Rattle.nv_logs.proofs.AskedRows.{asked_row}
use Rattle.nv_logs.proofs.folders.FoldersTeller.look.Goals as goal

pub row_look-requires : goal.row_look-requires
row_look-requires c = asked_row (tree_of (region_of []) c.args.found.now.rows.items) c.args.found.now.rows.items c.args.self.now.inode.now c.in-Ok.row.now (c.in-Ok.ensures.row (region_of []))

pub returns-in-Ok-clause-told : goal.returns-in-Ok-clause-told
returns-in-Ok-clause-told c R = IfOk-weaker c.row_look.result _ _ (λ look told. inl (c.in-Ok.row.now, c.in-Ok.ensures.row R, told)) c.row_look.ensures.told

pub returns-in-Err-clause-told : goal.returns-in-Err-clause-told
returns-in-Err-clause-told c R = IfOk-weaker c.refused_look.result _ _ (λ look said. inr (c.in-Err.refusal, c.in-Err.ensures.refused R, said)) c.refused_look.ensures.refused

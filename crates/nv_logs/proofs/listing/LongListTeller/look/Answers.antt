use Rattle.std.proofs.Common.{inl, inr}
use Rattle.std.proofs.lemmas.Result.{IfOk-weaker}
use Rattle.nv_logs.proofs.listing.LongListTeller.look.Goals as goal

pub returns-in-Ok-clause-told : goal.returns-in-Ok-clause-told
returns-in-Ok-clause-told c R = IfOk-weaker c.row_look.result _ _ (λ look told. inl (c.in-Ok.row.now, c.in-Ok.ensures.row R, told)) c.row_look.ensures.told

pub returns-in-Err-clause-told : goal.returns-in-Err-clause-told
returns-in-Err-clause-told c R = IfOk-weaker c.refused_look.result _ _ (λ look said. inr (c.in-Err.refusal, c.in-Err.ensures.refused R, said)) c.refused_look.ensures.refused

use Rattle.std.proofs.Common.{◌∙◌, inl, inr, ap, sym, is_some, string_bytes}
use Rattle.std.proofs.lemmas.Result.{IfOk-weaker}
use Rattle.nv_paths.specs.Seen.{tree_of}
use Rattle.nv_calls.specs.ByNumber.{stat_inode_tests}
use Rattle.nv_session.specs.declared.files.CallText.{CallText}
use Rattle.nv_session.proofs.Told.{refusal_told, refusal_is_some}
use Rattle.nv_session.proofs.by_number.stat_inode_text.Goals as goal

pub returns-in_ok-numbers_text-in-Ok-clause-text : goal.returns-in_ok-numbers_text-in-Ok-clause-text
returns-in_ok-numbers_text-in-Ok-clause-text g c = λ runs. inr (
  c.in-Ok.ensures.allowed,
  c.in-Ok.stat,
  c.in-Ok.ensures.ok,
  ap (λ (told : CallText). string_bytes told.text) c.answered.ensures ∙ c.in_ok-numbers_text-in-Ok.ensures,
)

pub returns-in_ok-numbers_text-in-Ok-clause-refused : goal.returns-in_ok-numbers_text-in-Ok-clause-refused
returns-in_ok-numbers_text-in-Ok-clause-refused g c = λ runs. ap (λ (told : CallText). told.is_refused) c.answered.ensures ∙ sym (ap is_some c.in-Ok.ensures.allowed)

pub returns-in-Err-clause-text : goal.returns-in-Err-clause-text
returns-in-Err-clause-text g c =
    IfOk-weaker c.refused.result _ _
    (λ told h runs. inl (refusal_told (stat_inode_tests (tree_of (g.P.Pmem.region c.args.mount.now.memory) c.args.mount.now.rows) c.args.inode) c.in-Err.refusal (string_bytes told.text) h.0 (inr (c.in-Err.ensures.refused runs)) h.1)) c.refused.ensures

pub returns-in-Err-clause-refused : goal.returns-in-Err-clause-refused
returns-in-Err-clause-refused g c =
    IfOk-weaker c.refused.result _ _
    (λ told h runs. refusal_is_some (stat_inode_tests (tree_of (g.P.Pmem.region c.args.mount.now.memory) c.args.mount.now.rows) c.args.inode) c.in-Err.refusal told.is_refused h.0 (inr (c.in-Err.ensures.refused runs)) h.2) c.refused.ensures

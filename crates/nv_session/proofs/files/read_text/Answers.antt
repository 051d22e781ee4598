use Rattle.std.proofs.Common.{◌∙◌, inl, ap, string_bytes}
use Rattle.std.proofs.lemmas.Result.{IfOk-weaker}
use Rattle.nv_paths.specs.Seen.{tree_of}
use Rattle.nv_tree.specs.Refusals.{read_tests}
use Rattle.nv_text.specs.Names.{data_line}
use Rattle.nv_session.proofs.Told.{refusal_told, bytes_told}
use Rattle.nv_session.proofs.files.read_text.Goals as goal

pub returns-in-Ok : goal.returns-in-Ok
returns-in-Ok c = IfOk-weaker c.data_text.result _ _ (λ text said runs. bytes_told (tree_of c.args.mount.now.memory.region c.args.mount.now.rows) c.args.path.now (string_bytes text) c.args.offset c.args.count c.in-Ok.bytes.items c.in-Ok.ensures.ok c.in-Ok.ensures.allowed (said ∙ ap data_line c.deref.ensures.value)) c.data_text.ensures

pub returns-in-Err : goal.returns-in-Err
returns-in-Err c = IfOk-weaker c.refused_call_text.result _ _ (λ text h runs p says. inl (refusal_told (read_tests (tree_of c.args.mount.now.memory.region c.args.mount.now.rows) p) c.in-Err.refusal (string_bytes text) h.0 (c.in-Err.ensures.refused runs p says) h.1)) c.refused_call_text.ensures

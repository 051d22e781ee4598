use Rattle.std.proofs.Common.{◌∙◌, ◌+◌, length, subst, sym}
use Rattle.nv_region.specs.Region.{Region}
use Rattle.nv_calls.specs.Mount.{Mount}
use Rattle.nv_calls.specs.Effects.{LogsBytes, makes_bytes}
use Rattle.nv_calls.specs.WriteCall.{WriteNeeds}
use Rattle.nova_c.specs.Refused.{write_refusal}
use Rattle.nova_c.proofs.Calls.{any_stop_of, refused_by, unchanged_by}
use Rattle.nova_c.proofs.files.nova_write.Goals as goal

pub returns-in-Ok-clause-any_stop : goal.returns-in-Ok-clause-any_stop
returns-in-Ok-clause-any_stop c running writes names is =
    any_stop_of _ _ _ _ (c.deref_mut.ensures.value ∙ c.in-Some.ensures.mount.1) c.put.ensures.mount (makes_bytes c.args.offset c.args.bytes.now c.args.time) (LogsBytes c.args.cpu c.args.offset (length c.args.bytes.now) c.args.time) names
    (λ runs writes. c.write-done.ensures.any_stop names is runs writes) running.runs writes

pub returns-in-Err-clause-refused : goal.returns-in-Err-clause-refused
returns-in-Err-clause-refused c running some p blocks says needs =
    refused_by (λ (m : Mount Region). write_refusal m c.args.cpu p (c.args.offset + length c.args.bytes.now) blocks) _ _ c.in-Err.refusal c.code.result (c.deref_mut.ensures.value ∙ c.in-Some.ensures.mount.1) c.code.ensures.says
    (λ runs. c.in-Err.ensures.refused runs p blocks says (subst (λ (m : Mount Region). WriteNeeds m.memory m c.args.cpu p c.args.offset (length c.args.bytes.now) c.args.time blocks) (sym (c.deref_mut.ensures.value ∙ c.in-Some.ensures.mount.1)) needs)) running.runs

pub returns-in-Err-clause-unchanged : goal.returns-in-Err-clause-unchanged
returns-in-Err-clause-unchanged c owns some =
    unchanged_by _ _ _ _ (c.deref_mut.ensures.value ∙ c.in-Some.ensures.mount.1) c.put.ensures.mount c.write-done.result c.in-Err.refusal c.in-Err.is
    c.write-done.ensures.call.stopped_before c.write-done.ensures.call.stopped c.in-Err.ensures.call.unchanged

pub returns-in-Err-clause-any_stop : goal.returns-in-Err-clause-any_stop
returns-in-Err-clause-any_stop c running writes names is =
    any_stop_of _ _ _ _ (c.deref_mut.ensures.value ∙ c.in-Some.ensures.mount.1) c.put.ensures.mount (makes_bytes c.args.offset c.args.bytes.now c.args.time) (LogsBytes c.args.cpu c.args.offset (length c.args.bytes.now) c.args.time) names
    (λ runs writes. c.write-done.ensures.any_stop names is runs writes) running.runs writes

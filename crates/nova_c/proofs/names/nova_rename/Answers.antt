use Rattle.std.proofs.Common.{◌∙◌, Some}
use Rattle.nv_region.specs.Region.{Region}
use Rattle.nv_calls.specs.Mount.{Mount}
use Rattle.nv_calls.specs.Effects.{logs_rename, makes_rename}
use Rattle.nova_c.specs.Refused.{rename_refusal}
use Rattle.nova_c.proofs.Calls.{logs_of, any_stop_of, refused_by, unchanged_by}
use Rattle.nova_c.proofs.names.nova_rename.Goals as goal

pub returns-in-Ok-clause-logs : goal.returns-in-Ok-clause-logs
returns-in-Ok-clause-logs c owns done names others is goes =
    logs_of _ _ _ _ (c.deref_mut.ensures.value ∙ c.in-Some.ensures.mount.1) c.put.ensures.mount (logs_rename c.args.cpu c.args.time (Some others)) names
    (record {
      across = λ i d e node held h k leads from to apart sound here there. c.in-Ok.ensures.log names others i d e node held h k is goes leads from to apart sound here there;
      within = λ i d node held h leads from to sound here. c.in-Ok.ensures.within names others i d node held h is goes leads from to sound here;
    })

pub returns-in-Ok-clause-any_stop : goal.returns-in-Ok-clause-any_stop
returns-in-Ok-clause-any_stop c running writes names others is goes =
    any_stop_of _ _ _ _ (c.deref_mut.ensures.value ∙ c.in-Some.ensures.mount.1) c.put.ensures.mount (makes_rename c.args.time (Some others)) (logs_rename c.args.cpu c.args.time (Some others)) names
    (λ runs writes. c.rename-done.ensures.any_stop names others is goes runs writes) running.runs writes

pub returns-in-Err-clause-refused : goal.returns-in-Err-clause-refused
returns-in-Err-clause-refused c running some p q says goes =
    refused_by (λ (m : Mount Region). rename_refusal m c.args.cpu p q) _ _ c.in-Err.refusal c.code.result (c.deref_mut.ensures.value ∙ c.in-Some.ensures.mount.1) c.code.ensures.says
    (λ runs. c.in-Err.ensures.refused runs p q says goes) running.runs

pub returns-in-Err-clause-unchanged : goal.returns-in-Err-clause-unchanged
returns-in-Err-clause-unchanged c owns some =
    unchanged_by _ _ _ _ (c.deref_mut.ensures.value ∙ c.in-Some.ensures.mount.1) c.put.ensures.mount c.rename-done.result c.in-Err.refusal c.in-Err.is
    c.rename-done.ensures.call.stopped_before c.rename-done.ensures.call.stopped c.in-Err.ensures.call.unchanged

pub returns-in-Err-clause-any_stop : goal.returns-in-Err-clause-any_stop
returns-in-Err-clause-any_stop c running writes names others is goes =
    any_stop_of _ _ _ _ (c.deref_mut.ensures.value ∙ c.in-Some.ensures.mount.1) c.put.ensures.mount (makes_rename c.args.time (Some others)) (logs_rename c.args.cpu c.args.time (Some others)) names
    (λ runs writes. c.rename-done.ensures.any_stop names others is goes runs writes) running.runs writes

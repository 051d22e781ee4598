use Rattle.std.proofs.Common.{◌∙◌, Some}
use Rattle.nv_region.specs.Region.{Region}
use Rattle.nv_calls.specs.Mount.{Mount}
use Rattle.nv_calls.specs.Effects.{logs_link, makes_link}
use Rattle.nova_c.specs.Refused.{link_refusal}
use Rattle.nova_c.proofs.Calls.{any_stop_of, refused_by, unchanged_by}
use Rattle.nova_c.proofs.names.nova_link.Goals as goal

pub returns-in-Ok-clause-any_stop : goal.returns-in-Ok-clause-any_stop
returns-in-Ok-clause-any_stop c running writes names others is goes =
    any_stop_of _ _ _ _ (c.deref_mut.ensures.value ∙ c.in-Some.ensures.mount.1) c.put.ensures.mount (makes_link c.args.time (Some others)) (logs_link c.args.cpu c.args.time (Some others)) names
    (λ runs writes. c.link-done.ensures.any_stop names others is goes runs writes) running.runs writes

pub returns-in-Err-clause-refused : goal.returns-in-Err-clause-refused
returns-in-Err-clause-refused c running some p q says goes =
    refused_by (λ (m : Mount Region). link_refusal m c.args.cpu p q) _ _ c.in-Err.refusal c.code.result (c.deref_mut.ensures.value ∙ c.in-Some.ensures.mount.1) c.code.ensures.says
    (λ runs. c.in-Err.ensures.refused runs p q says goes) running.runs

pub returns-in-Err-clause-unchanged : goal.returns-in-Err-clause-unchanged
returns-in-Err-clause-unchanged c owns some =
    unchanged_by _ _ _ _ (c.deref_mut.ensures.value ∙ c.in-Some.ensures.mount.1) c.put.ensures.mount c.link-done.result c.in-Err.refusal c.in-Err.is
    c.link-done.ensures.call.stopped_before c.link-done.ensures.call.stopped c.in-Err.ensures.call.unchanged

pub returns-in-Err-clause-any_stop : goal.returns-in-Err-clause-any_stop
returns-in-Err-clause-any_stop c running writes names others is goes =
    any_stop_of _ _ _ _ (c.deref_mut.ensures.value ∙ c.in-Some.ensures.mount.1) c.put.ensures.mount (makes_link c.args.time (Some others)) (logs_link c.args.cpu c.args.time (Some others)) names
    (λ runs writes. c.link-done.ensures.any_stop names others is goes runs writes) running.runs writes

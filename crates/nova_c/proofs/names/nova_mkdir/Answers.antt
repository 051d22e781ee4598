use Rattle.std.proofs.Common.{◌∙◌}
use Rattle.nv_region.specs.Region.{Region}
use Rattle.nv_calls.specs.Mount.{Mount}
use Rattle.nv_super.specs.declared.kind.Kind.TheVariants.{Directory}
use Rattle.nv_calls.specs.Effects.{logs_inode, makes_inode}
use Rattle.nova_c.specs.Refused.{create_refusal}
use Rattle.nova_c.proofs.Calls.{growing_stop_of, logs_of, refused_by, unchanged_by}
use Rattle.nova_c.proofs.names.nova_mkdir.Goals as goal

pub returns-in-Ok-clause-logs : goal.returns-in-Ok-clause-logs
returns-in-Ok-clause-logs c owns done names is =
    logs_of _ _ _ _ (c.deref_mut.ensures.value ∙ c.in-Some.ensures.mount.1) c.put.ensures.mount (logs_inode Directory c.args.cpu c.args.mode c.args.time) names
    (λ d j held h way number sound here. c.in-Ok.ensures.log names d j held h is way number sound here)

pub returns-in-Ok-clause-any_stop : goal.returns-in-Ok-clause-any_stop
returns-in-Ok-clause-any_stop c running writes names is =
    growing_stop_of _ _ _ _ (c.deref_mut.ensures.value ∙ c.in-Some.ensures.mount.1) c.put.ensures.mount c.args.cpu (makes_inode Directory c.args.cpu c.args.mode c.args.time) (logs_inode Directory c.args.cpu c.args.mode c.args.time) names
    (λ runs writes. c.mkdir-done.ensures.any_stop names is runs writes) running.runs writes

pub returns-in-Err-clause-refused : goal.returns-in-Err-clause-refused
returns-in-Err-clause-refused c running some p says =
    refused_by (λ (m : Mount Region). create_refusal m c.args.cpu p) _ _ c.in-Err.refusal c.code.result (c.deref_mut.ensures.value ∙ c.in-Some.ensures.mount.1) c.code.ensures.says
    (λ runs. c.in-Err.ensures.refused runs p says) running.runs

pub returns-in-Err-clause-unchanged : goal.returns-in-Err-clause-unchanged
returns-in-Err-clause-unchanged c owns some =
    unchanged_by _ _ _ _ (c.deref_mut.ensures.value ∙ c.in-Some.ensures.mount.1) c.put.ensures.mount c.mkdir-done.result c.in-Err.refusal c.in-Err.is
    c.mkdir-done.ensures.call.stopped_before c.mkdir-done.ensures.call.stopped c.in-Err.ensures.call.unchanged

pub returns-in-Err-clause-any_stop : goal.returns-in-Err-clause-any_stop
returns-in-Err-clause-any_stop c running writes names is =
    growing_stop_of _ _ _ _ (c.deref_mut.ensures.value ∙ c.in-Some.ensures.mount.1) c.put.ensures.mount c.args.cpu (makes_inode Directory c.args.cpu c.args.mode c.args.time) (logs_inode Directory c.args.cpu c.args.mode c.args.time) names
    (λ runs writes. c.mkdir-done.ensures.any_stop names is runs writes) running.runs writes

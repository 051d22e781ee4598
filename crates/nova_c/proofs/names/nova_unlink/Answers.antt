use Rattle.std.proofs.Common.{◌∙◌}
use Rattle.nv_region.specs.Region.{Region}
use Rattle.nv_calls.specs.Mount.{Mount}
use Rattle.nv_calls.specs.Effects.{LogsUnlink, makes_unlink}
use Rattle.nova_c.specs.Refused.{unlink_refusal}
use Rattle.nova_c.proofs.Calls.{logs_of, any_stop_of, refused_by, unchanged_by}
use Rattle.nova_c.proofs.names.nova_unlink.Goals as goal

pub returns-in-Ok-clause-logs : goal.returns-in-Ok-clause-logs
returns-in-Ok-clause-logs c owns done names is =
    logs_of _ _ _ _ (c.deref_mut.ensures.value ∙ c.in-Some.ensures.mount.1) c.put.ensures.mount (LogsUnlink c.args.cpu c.args.time) names
    (record {
      more = λ i d node held h f leads way sound here there many. c.in-Ok.ensures.log names i d node held h f is leads way sound here there many;
      last = λ i d node held h leads way sound here few. c.in-Ok.ensures.last names i d node held h is leads way sound here few;
    })

pub returns-in-Ok-clause-any_stop : goal.returns-in-Ok-clause-any_stop
returns-in-Ok-clause-any_stop c running writes names is =
    any_stop_of _ _ _ _ (c.deref_mut.ensures.value ∙ c.in-Some.ensures.mount.1) c.put.ensures.mount (makes_unlink c.args.time) (LogsUnlink c.args.cpu c.args.time) names
    (λ runs writes. c.unlink-done.ensures.any_stop names is runs writes) running.runs writes

pub returns-in-Err-clause-refused : goal.returns-in-Err-clause-refused
returns-in-Err-clause-refused c running some p says =
    refused_by (λ (m : Mount Region). unlink_refusal m c.args.cpu p) _ _ c.in-Err.refusal c.code.result (c.deref_mut.ensures.value ∙ c.in-Some.ensures.mount.1) c.code.ensures.says
    (λ runs. c.in-Err.ensures.refused runs p says) running.runs

pub returns-in-Err-clause-unchanged : goal.returns-in-Err-clause-unchanged
returns-in-Err-clause-unchanged c owns some =
    unchanged_by _ _ _ _ (c.deref_mut.ensures.value ∙ c.in-Some.ensures.mount.1) c.put.ensures.mount c.unlink-done.result c.in-Err.refusal c.in-Err.is
    c.unlink-done.ensures.call.stopped_before c.unlink-done.ensures.call.stopped c.in-Err.ensures.call.unchanged

pub returns-in-Err-clause-any_stop : goal.returns-in-Err-clause-any_stop
returns-in-Err-clause-any_stop c running writes names is =
    any_stop_of _ _ _ _ (c.deref_mut.ensures.value ∙ c.in-Some.ensures.mount.1) c.put.ensures.mount (makes_unlink c.args.time) (LogsUnlink c.args.cpu c.args.time) names
    (λ runs writes. c.unlink-done.ensures.any_stop names is runs writes) running.runs writes

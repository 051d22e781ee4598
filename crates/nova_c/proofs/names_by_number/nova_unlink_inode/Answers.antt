use Rattle.std.proofs.Common.{◌∙◌}
use Rattle.nv_region.specs.Region.{Region}
use Rattle.nv_calls.specs.Mount.{Mount}
use Rattle.nv_paths.specs.Seen.{tree_of}
use Rattle.nv_calls.specs.NamesByNumber.{LogsUnlinkedIn, unlinked_in}
use Rattle.nv_calls.specs.Stopped.{StopLeaves}
use Rattle.nova_c.specs.Refused.{unlink_inode_refusal}
use Rattle.nova_c.proofs.Calls.{any_stop_by, logged_by, refused_by, unchanged_by}
use Rattle.nova_c.proofs.names_by_number.nova_unlink_inode.Goals as goal

pub returns-in-Ok-clause-logs : goal.returns-in-Ok-clause-logs
returns-in-Ok-clause-logs c owns done =
    logged_by _ _ _ _ (c.deref_mut.ensures.value ∙ c.in-Some.ensures.mount.1) c.put.ensures.mount (λ (R : Region) (k : Mount Region). LogsUnlinkedIn c.args.cpu c.args.time c.args.directory c.args.name.now R k) c.in-Ok.ensures.log

pub returns-in-Err-clause-refused : goal.returns-in-Err-clause-refused
returns-in-Err-clause-refused c running some =
    refused_by (λ (m : Mount Region). unlink_inode_refusal m c.args.cpu c.args.directory c.args.name.now) _ _ c.in-Err.refusal c.code.result (c.deref_mut.ensures.value ∙ c.in-Some.ensures.mount.1) c.code.ensures.says
    (λ runs. c.in-Err.ensures.refused runs) running.runs

pub returns-in-Err-clause-unchanged : goal.returns-in-Err-clause-unchanged
returns-in-Err-clause-unchanged c owns some =
    unchanged_by _ _ _ _ (c.deref_mut.ensures.value ∙ c.in-Some.ensures.mount.1) c.put.ensures.mount c.unlink_inode-done.result c.in-Err.refusal c.in-Err.is
    c.unlink_inode-done.ensures.call.stopped_before c.unlink_inode-done.ensures.call.stopped c.in-Err.ensures.call.unchanged

pub returns-in-Ok-clause-any_stop : goal.returns-in-Ok-clause-any_stop
returns-in-Ok-clause-any_stop c running writes =
    any_stop_by _ _ _ _ (c.deref_mut.ensures.value ∙ c.in-Some.ensures.mount.1) c.put.ensures.mount
    (λ (R : Region) (k : Mount Region). StopLeaves R k.layout k.rows k.free.pools (unlinked_in c.args.directory c.args.name.now c.args.time (tree_of R k.rows)) (LogsUnlinkedIn c.args.cpu c.args.time c.args.directory c.args.name.now R k))
    (λ runs writes. c.unlink_inode-done.ensures.any_stop runs writes) running.runs writes

pub returns-in-Err-clause-any_stop : goal.returns-in-Err-clause-any_stop
returns-in-Err-clause-any_stop c running writes =
    any_stop_by _ _ _ _ (c.deref_mut.ensures.value ∙ c.in-Some.ensures.mount.1) c.put.ensures.mount
    (λ (R : Region) (k : Mount Region). StopLeaves R k.layout k.rows k.free.pools (unlinked_in c.args.directory c.args.name.now c.args.time (tree_of R k.rows)) (LogsUnlinkedIn c.args.cpu c.args.time c.args.directory c.args.name.now R k))
    (λ runs writes. c.unlink_inode-done.ensures.any_stop runs writes) running.runs writes

use Rattle.std.proofs.Common.{◌≡◌, ◌∙◌, Some, subst}
use Rattle.nv_region.specs.Region.{Region}
use Rattle.nv_calls.specs.Mount.{Mount}
use Rattle.nv_super.specs.declared.kind.Kind.TheVariants.{Directory}
use Rattle.nv_paths.specs.Seen.{tree_of}
use Rattle.nv_paths.specs.Spots.{new_number}
use Rattle.nv_calls.specs.NamesByNumber.{created_in, logs_created_in}
use Rattle.nv_calls.specs.Stopped.{StopGrows}
use Rattle.nova_c.specs.Refused.{create_inode_refusal}
use Rattle.nova_c.proofs.Calls.{any_stop_by, changed_of, logged_by, refused_by, unchanged_by}
use Rattle.nova_c.proofs.names_by_number.nova_mkdir_inode.Goals as goal

pub returns-in-Ok-clause-made : goal.returns-in-Ok-clause-made
returns-in-Ok-clause-made c owns done =
    let before = c.deref_mut.ensures.value ∙ c.in-Some.ensures.mount.1 in
    record {
      number = subst (λ (k : Mount Region). new_number k.layout k.rows c.args.cpu ≡ Some c.in-Ok.number) before c.in-Ok.ensures.number;
      changed = changed_of _ _ _ _ before c.put.ensures.mount (λ (k : Mount Region). created_in Directory (new_number k.layout k.rows c.args.cpu) c.args.directory c.args.name.now c.args.mode c.args.time (tree_of k.memory k.rows)) c.in-Ok.ensures.changed;
      logs =
          logged_by _ _ _ _ (c.deref_mut.ensures.value ∙ c.in-Some.ensures.mount.1) c.put.ensures.mount (λ (R : Region) (k : Mount Region). logs_created_in Directory c.args.cpu c.args.mode c.args.time c.args.directory c.args.name.now R k) c.in-Ok.ensures.log;
    }

pub returns-in-Err-clause-refused : goal.returns-in-Err-clause-refused
returns-in-Err-clause-refused c running some =
    refused_by (λ (m : Mount Region). create_inode_refusal m c.args.cpu c.args.directory c.args.name.now) _ _ c.in-Err.refusal c.code.result (c.deref_mut.ensures.value ∙ c.in-Some.ensures.mount.1) c.code.ensures.says
    (λ runs. c.in-Err.ensures.refused runs) running.runs

pub returns-in-Err-clause-unchanged : goal.returns-in-Err-clause-unchanged
returns-in-Err-clause-unchanged c owns some =
    unchanged_by _ _ _ _ (c.deref_mut.ensures.value ∙ c.in-Some.ensures.mount.1) c.put.ensures.mount c.mkdir_inode-done.result c.in-Err.refusal c.in-Err.is
    c.mkdir_inode-done.ensures.call.stopped_before c.mkdir_inode-done.ensures.call.stopped c.in-Err.ensures.call.unchanged

pub returns-in-Ok-clause-any_stop : goal.returns-in-Ok-clause-any_stop
returns-in-Ok-clause-any_stop c running writes =
    any_stop_by _ _ _ _ (c.deref_mut.ensures.value ∙ c.in-Some.ensures.mount.1) c.put.ensures.mount
    (λ (R : Region) (k : Mount Region). StopGrows c.args.cpu R k (created_in Directory (new_number k.layout k.rows c.args.cpu) c.args.directory c.args.name.now c.args.mode c.args.time (tree_of R k.rows)) (logs_created_in Directory c.args.cpu c.args.mode c.args.time c.args.directory c.args.name.now R k))
    (λ runs writes. c.mkdir_inode-done.ensures.any_stop runs writes) running.runs writes

pub returns-in-Err-clause-any_stop : goal.returns-in-Err-clause-any_stop
returns-in-Err-clause-any_stop c running writes =
    any_stop_by _ _ _ _ (c.deref_mut.ensures.value ∙ c.in-Some.ensures.mount.1) c.put.ensures.mount
    (λ (R : Region) (k : Mount Region). StopGrows c.args.cpu R k (created_in Directory (new_number k.layout k.rows c.args.cpu) c.args.directory c.args.name.now c.args.mode c.args.time (tree_of R k.rows)) (logs_created_in Directory c.args.cpu c.args.mode c.args.time c.args.directory c.args.name.now R k))
    (λ runs writes. c.mkdir_inode-done.ensures.any_stop runs writes) running.runs writes

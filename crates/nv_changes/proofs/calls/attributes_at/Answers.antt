use Rattle.nv_paths.specs.Seen.{tree_of}
use Rattle.nv_changes.proofs.Standing.{none_attributes, stat_attributes}
use Rattle.nv_changes.proofs.calls.attributes_at.Goals as goal

pub returns-in-Ok : goal.returns-in-Ok
returns-in-Ok c = stat_attributes (tree_of c.args.mount.now.memory.region c.args.mount.now.rows) c.args.path.now c.in-Ok.stat c.in-Ok.ensures.ok

pub returns-in-Err : goal.returns-in-Err
returns-in-Err c = none_attributes (tree_of c.args.mount.now.memory.region c.args.mount.now.rows) c.args.path.now c.in-Err.field-0 0 0 0 (c.in-Err.ensures.refused c.requires)

use Rattle.std.proofs.Common.{refl}
use Rattle.nv_paths.specs.Seen.{tree_of}
use Rattle.nv_changes.proofs.Standing.{refused_not_there, stat_there}
use Rattle.nv_unpack.proofs.calls.is_there.Goals as goal

pub returns-in-Ok : goal.returns-in-Ok
returns-in-Ok c = ((λ on. stat_there (tree_of c.args.mount.now.memory.region c.args.mount.now.rows) c.args.path.now c.in-Ok.field-0 c.in-Ok.ensures.ok c.in-Ok.ensures.allowed), (λ there. refl))

pub returns-in-Err : goal.returns-in-Err
returns-in-Err c = ((λ off. absurd (cc)), (λ there. absurd (refused_not_there (tree_of c.args.mount.now.memory.region c.args.mount.now.rows) c.args.path.now c.in-Err.field-0 (c.in-Err.ensures.refused c.requires) there)))

use Rattle.nv_paths.proofs.Targets.{held_by}
use Rattle.nv_paths.proofs.naming.target_of.Goals as goal

pub returns-clause-held : goal.returns-clause-held
returns-clause-held c = held_by c.args.rows.now.items c.get-2.result c.in_ok-target.target.inode c.get-2.ensures

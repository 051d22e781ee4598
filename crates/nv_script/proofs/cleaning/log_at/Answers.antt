use Rattle.std.proofs.Common.{List, ℕ}
use Rattle.nv_paths.specs.Seen.{tree_of}
use Rattle.nv_script.proofs.CleanedImage.{one_asked}
use Rattle.nv_script.proofs.cleaning.log_at.Goals as goal

pub returns-in-Ok-clause-asked : goal.returns-in-Ok-clause-asked
returns-in-Ok-clause-asked c = one_asked (tree_of c.args.mount.now.memory.region c.args.mount.now.rows) c.args.path.now c.in-Ok.stat.inode c.in-Ok.ensures.allowed (λ names is. (c.in-Ok.ensures.ok names is).leads)

pub returns-in-Ok-clause-tests : goal.returns-in-Ok-clause-tests
returns-in-Ok-clause-tests c = c.in-Ok.ensures.allowed

pub returns-in-Err-clause-tests : goal.returns-in-Err-clause-tests
returns-in-Err-clause-tests c = c.in-Err.ensures.refused c.requires

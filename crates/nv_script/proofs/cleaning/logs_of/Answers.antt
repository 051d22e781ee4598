use Rattle.nv_paths.specs.Seen.{tree_of}
use Rattle.std.specs.Result.{result_err}
use Rattle.nv_script.proofs.CleanedImage.{all_asked, none_refuses, path_decides}
use Rattle.nv_script.proofs.cleaning.logs_of.Goals as goal

pub returns-in-Some-clause-asked : goal.returns-in-Some-clause-asked
returns-in-Some-clause-asked c = rw c.in-Some.is c.log_at.ensures.asked

pub returns-in-Some-clause-tests : goal.returns-in-Some-clause-tests
returns-in-Some-clause-tests c = rw c.in-Some.is (λ tests asks. path_decides (tree_of c.args.mount.now.memory.region c.args.mount.now.rows) c.in-Some.path.now tests (result_err c.log_at.result) asks c.log_at.ensures.tests)

pub returns-in-None-clause-asked : goal.returns-in-None-clause-asked
returns-in-None-clause-asked c = rw c.in-None.is (all_asked (tree_of c.args.mount.now.memory.region c.args.mount.now.rows))

pub returns-in-None-clause-tests : goal.returns-in-None-clause-tests
returns-in-None-clause-tests c = rw c.in-None.is (λ tests asks. none_refuses (tree_of c.args.mount.now.memory.region c.args.mount.now.rows) tests asks)

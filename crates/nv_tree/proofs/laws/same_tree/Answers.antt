use Rattle.nv_tree.proofs.Same.{same_itself, same_symmetric, same_transitive}
use Rattle.nv_tree.proofs.laws.same_tree.Goals as goal

pub returns : goal.returns
returns c = record { itself = same_itself; symmetric = same_symmetric; transitive = same_transitive }

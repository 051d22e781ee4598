use Rattle.nv_commit.proofs.BlocksOf.{attributes_map_nothing, same_file}
use Rattle.nv_commit.proofs.owning.no_page_is_said.Goals as goal

pub returns-clause-stays : goal.returns-clause-stays
returns-clause-stays c = same_file

pub returns-clause-attributes : goal.returns-clause-attributes
returns-clause-attributes c = attributes_map_nothing

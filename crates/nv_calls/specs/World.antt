-- What stands beside the tree of a mounted file system.
use Rattle.nv_alloc.specs.Taking.{all_blocks}
use Rattle.nv_paths.specs.Spots.{new_number}
use Rattle.nv_tree.specs.Refusals.{World}
use Rattle.nv_calls.specs.Mount.{Mount}

-- what the tests of a call look at beside the tree
abbrev pub world_of : {P : Type 0} → Mount P → World
world_of m = record {
  cpus = m.sup.cpus;
  read_only = m.read_only;
  unused = new_number m.layout m.rows;
  free = all_blocks m.free.pools;
}

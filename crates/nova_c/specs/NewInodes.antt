-- What the calls make that make an inode by the number of its directory.
use Rattle.std.specs.Prelude.{◌≡◌, ℕ, List, Some}
use Rattle.nv_region.specs.Region.{Region}
use Rattle.nv_super.specs.declared.kind.Kind.{Kind}
use Rattle.nv_tree.specs.Tree.{SameTree}
use Rattle.nv_paths.specs.Spots.{new_number}
use Rattle.nv_calls.specs.Mount.{Mount}
use Rattle.nv_calls.specs.NamesByNumber.{created_in, logs_created_in}
use Rattle.nova_c.specs.Handles.{shown}

-- The number that is told is the one that a new inode of the CPU gets. The tree has that inode and its name, and so have the logs, of which
-- no other has changed.
pub record MakesInodeIn (kind : Kind) (cpu mode time d : ℕ) (name : List ℕ) (old new : Mount Region) (told : ℕ) : Type 0 where
  pub number : new_number old.layout old.rows cpu ≡ Some told
  pub changed : SameTree (shown new) (created_in kind (new_number old.layout old.rows cpu) d name mode time (shown old))
  pub logs : logs_created_in kind cpu mode time d name old.memory old new.memory

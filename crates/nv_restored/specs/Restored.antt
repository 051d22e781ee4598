-- A tree that was given back.
use Rattle.nv_tree.specs.Tree.{Tree}
use Rattle.nv_restored.specs.Links.{IsWithinReach, LinksAreNames}
use Rattle.nv_restored.specs.Same.{IsReached, IsSameByPaths}

-- The second tree is the same as the first but for the numbers of its inodes. It has nothing that no path leads to, and its link
-- counts are right.
pub record IsRestored (t u : Tree) : Type 0 where
  pub same : IsSameByPaths t u
  pub reached : IsReached u
  pub links : LinksAreNames u
  pub within : IsWithinReach u

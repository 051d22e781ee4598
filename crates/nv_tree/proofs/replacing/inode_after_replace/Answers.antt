use Rattle.nv_tree.proofs.Replaced.{directory_gone, last_gone, more_left}
use Rattle.nv_tree.proofs.replacing.inode_after_replace.Goals as goal

pub returns : goal.returns
returns c = record {
  directory = λ t i j d e first old name new time r is. directory_gone time r is;
  last = λ t i j d e first old name new time r is few. last_gone time r is few;
  more = λ t i j d e first old name new time node r is there more. more_left time r node is there more;
}

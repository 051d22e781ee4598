use Rattle.nv_scan.proofs.Only.{IsInode-only}
use Rattle.nv_scan.proofs.laws.one_inode.Goals as goal

pub returns : goal.returns
returns c = λ R l i a b x y h k. IsInode-only h k

use Rattle.nv_scan.proofs.Alone.{IsInode-same, IsRow-same}
use Rattle.nv_scan.proofs.laws.inode_alone.Goals as goal

pub returns : goal.returns
returns c = record {
  log = λ R Q l i a w slot pages h. IsInode-same Q slot pages h;
  row = λ R Q l a w row slot created pages h. IsRow-same Q slot created pages h;
}

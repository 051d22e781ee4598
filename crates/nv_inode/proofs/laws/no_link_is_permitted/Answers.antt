use Rattle.nv_inode.proofs.LayoutWords.{link_unpermitted}
use Rattle.nv_inode.proofs.laws.no_link_is_permitted.Goals as goal

pub returns : goal.returns
returns c = link_unpermitted

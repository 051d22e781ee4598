use Rattle.nv_tree.proofs.Contents.{new_read, others_stay, gap_is_zeros, below_stays, past_is_zeros}
use Rattle.nv_tree.proofs.laws.read_back.Goals as goal

pub returns : goal.returns
returns c = record { new = new_read; others = others_stay; gap = gap_is_zeros; resized = below_stays; lengthened = past_is_zeros }

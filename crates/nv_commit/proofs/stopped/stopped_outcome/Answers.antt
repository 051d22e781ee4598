use Rattle.nv_commit.proofs.Left as made
use Rattle.nv_commit.proofs.stopped.stopped_outcome.Goals as goal

pub returns : goal.returns
returns c = record {
  kept = λ left l after o can sound is. (made.left_faultless can sound o is, made.left_keeps can sound o is);
  same = λ left l after o rows free can sound is keeps. made.left_same can sound o is rows free keeps;
}

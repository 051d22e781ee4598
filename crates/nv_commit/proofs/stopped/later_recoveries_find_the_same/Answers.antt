use Rattle.nv_commit.proofs.Left as made
use Rattle.nv_commit.proofs.stopped.later_recoveries_find_the_same.Goals as goal

pub returns : goal.returns
returns c = λ left next l after o sound sup same is. made.later_keeps left sound next sup same o is

use Rattle.nv_commit.proofs.Left as made
use Rattle.nv_commit.proofs.stopped.one_thing_is_shown.Goals as goal

pub returns : goal.returns
returns c = λ R l held other a b. made.one_held a.shows b.shows

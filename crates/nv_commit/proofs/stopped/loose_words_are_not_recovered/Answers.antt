use Rattle.nv_commit.proofs.Left as made
use Rattle.nv_commit.proofs.stopped.loose_words_are_not_recovered.Goals as goal

pub returns : goal.returns
returns c = made.loose_recovers

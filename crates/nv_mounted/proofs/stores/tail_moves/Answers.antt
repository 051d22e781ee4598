use Rattle.nv_mounted.proofs.Commits as made
use Rattle.nv_mounted.proofs.stores.tail_moves.Goals as goal

pub returns : goal.returns
returns c = λ l held R S i a new h entries pages slots. made.tail_committed l held R S i a new h entries pages (made.pages_clear slots)

use Rattle.nv_mounted.proofs.Kept as made
use Rattle.nv_mounted.proofs.stores.loose_words_are_not_shown.Goals as goal

pub returns : goal.returns
returns c = made.loose_shown

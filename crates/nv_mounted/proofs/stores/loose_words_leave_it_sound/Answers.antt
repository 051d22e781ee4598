use Rattle.nv_mounted.proofs.Fronts as made
use Rattle.nv_mounted.proofs.stores.loose_words_leave_it_sound.Goals as goal

pub returns : goal.returns
returns c = made.loose_sound

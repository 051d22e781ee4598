use Rattle.nv_mounted.proofs.Fronts as made
use Rattle.nv_mounted.proofs.stores.sound_moves.Goals as goal

pub returns : goal.returns
returns c = made.sound_moves

use Rattle.nv_mounted.proofs.Fronts.{sound_moves}
use Rattle.nv_commit.proofs.laws.shown_is_sound.Goals as goal

pub returns : goal.returns
returns c = λ R left l held after sound moved faultless. sound_moves R left l held after sound moved.front moved.shows faultless

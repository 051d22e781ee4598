use Rattle.nv_mounted.proofs.Appending as made
use Rattle.nv_mounted.proofs.appends.appended_log_is_sound.Goals as goal

pub returns : goal.returns
returns c = made.sound_follows

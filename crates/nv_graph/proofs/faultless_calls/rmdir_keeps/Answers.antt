use Rattle.nv_graph.proofs.Sound.{sound, faultless}
use Rattle.nv_graph.proofs.Changes.{directory_removed_sound}
use Rattle.nv_graph.proofs.faultless_calls.rmdir_keeps.Goals as goal

pub returns : goal.returns
returns c = λ g d name i f named dir empty. faultless _ (directory_removed_sound g d name i (sound g f) named dir empty)

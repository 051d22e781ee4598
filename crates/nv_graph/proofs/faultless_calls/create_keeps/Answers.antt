use Rattle.nv_graph.proofs.Sound.{sound, faultless}
use Rattle.nv_graph.proofs.Changes.{made_sound}
use Rattle.nv_graph.proofs.faultless_calls.create_keeps.Goals as goal

pub returns : goal.returns
returns c = λ g kind d name i f dir absent unused. faultless _ (made_sound g kind d name i (sound g f) dir absent unused)

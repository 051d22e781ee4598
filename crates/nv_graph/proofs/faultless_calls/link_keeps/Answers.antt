use Rattle.nv_graph.proofs.Sound.{sound, faultless}
use Rattle.nv_graph.proofs.Changes.{linked_sound}
use Rattle.nv_graph.proofs.faultless_calls.link_keeps.Goals as goal

pub returns : goal.returns
returns c = λ g d name i n f dir absent is file. faultless _ (linked_sound g d name i n (sound g f) dir absent is file)

use Rattle.nv_graph.proofs.Renamed.{lost}
use Rattle.nv_graph.proofs.Sound.{sound}
use Rattle.nv_graph.proofs.faultless_calls.renamed_into_itself.Goals as goal

pub returns : goal.returns
returns c = λ g d name e new i f named absent dir cut after. lost g d name e new i (sound g f) named absent dir cut (sound _ after)

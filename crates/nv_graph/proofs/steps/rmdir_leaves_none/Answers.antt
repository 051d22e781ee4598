use Rattle.nv_graph.proofs.Sound.{sound, faultless}
use Rattle.nv_graph.proofs.Changes.{directory_removed_sound}
use Rattle.nv_graph.proofs.AfterCalls.{remove_graph}
use Rattle.nv_graph.proofs.steps.rmdir_leaves_none.Goals as goal

pub returns : goal.returns
returns c = λ R S l g d name i f named dir empty s. record {
  graph = remove_graph f.graph d name i named empty s;
  none = faultless _ (directory_removed_sound g d name i (sound g f.none) named dir empty);
}

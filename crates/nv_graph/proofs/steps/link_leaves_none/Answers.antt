use Rattle.nv_graph.proofs.Sound.{sound, faultless}
use Rattle.nv_graph.proofs.Changes.{linked_sound}
use Rattle.nv_graph.proofs.AfterCalls.{link_graph}
use Rattle.nv_graph.proofs.steps.link_leaves_none.Goals as goal

pub returns : goal.returns
returns c = λ R S l g d name i n f dir absent is file s. record {
  graph = link_graph f.graph d name i n dir is file s;
  none = faultless _ (linked_sound g d name i n (sound g f.none) dir absent is file);
}

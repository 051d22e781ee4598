use Rattle.nv_graph.proofs.Sound.{sound, faultless}
use Rattle.nv_graph.proofs.Changes.{made_sound}
use Rattle.nv_graph.proofs.AfterCalls.{create_graph, unused_node}
use Rattle.nv_graph.proofs.steps.create_leaves_none.Goals as goal

pub returns : goal.returns
returns c = λ R S l g kind d name i f dir absent s. record {
  graph = create_graph f.graph kind d name i dir s;
  none = faultless _ (made_sound g kind d name i (sound g f.none) dir absent (unused_node f.graph i s.unused));
}

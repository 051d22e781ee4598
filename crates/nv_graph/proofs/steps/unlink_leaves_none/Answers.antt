use Rattle.nv_graph.proofs.Sound.{sound, faultless}
use Rattle.nv_graph.proofs.Changes.{unlinked_sound, last_removed_sound}
use Rattle.nv_graph.proofs.AfterCalls.{unlink_graph, remove_graph, file_empty}
use Rattle.nv_graph.proofs.steps.unlink_leaves_none.Goals as goal

pub returns-clause-more_left : goal.returns-clause-more_left
returns-clause-more_left c = λ R S l g d name i n f named is file more s. record {
  graph = unlink_graph f.graph d name i n is file more named s;
  none = faultless _ (unlinked_sound g d name i n (sound g f.none) named is file more);
}

pub returns-clause-last : goal.returns-clause-last
returns-clause-last c = λ R S l g d name i n f named is file last s. record {
  graph = remove_graph f.graph d name i named (file_empty f.graph i n is file) s;
  none = faultless _ (last_removed_sound g d name i n (sound g f.none) named is file last);
}

use Rattle.nv_graph.proofs.Sound.{sound, faultless}
use Rattle.nv_graph.proofs.Renamed.{renamed_by_path}
use Rattle.nv_graph.proofs.AfterCalls.{rename_graph}
use Rattle.nv_graph.proofs.steps.rename_leaves_none.Goals as goal

pub returns : goal.returns
returns c = λ R S l g d name path e new i f named walked dir absent clear s. record {
  graph = rename_graph f.graph d name e new i dir named s;
  none = faultless _ (renamed_by_path g d name path e new i (sound g f.none) named walked dir absent clear);
}

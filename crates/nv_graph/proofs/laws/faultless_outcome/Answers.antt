use Rattle.std.proofs.Common.{List, subst}
use Rattle.std.specs.List.{Contains}
use Rattle.nv_super.specs.declared.faults.Fault.{Fault}
use Rattle.nv_outcome.specs.Outcome as outcome
use Rattle.nv_super.proofs.Members.{none_in}
use Rattle.nv_graph.proofs.Bridge.{is_faultless}
use Rattle.nv_graph.proofs.OfRows.{graph_is, all_names}
use Rattle.nv_graph.proofs.laws.faultless_outcome.Goals as goal

pub returns : goal.returns
returns c = λ R o is none. record {
  graph = graph_is is.rows;
  none = is_faultless (graph_is is.rows) (all_names is.rows)
      (λ f h. none_in f (subst (λ (fs : List Fault). Contains fs f) none (is.faults.all f (outcome.IsFaulty.cross h))));
}

use Rattle.nv_mounted.proofs.Graphs as made
use Rattle.nv_mounted.proofs.names.graph_linked.Goals as goal

pub returns : goal.returns
returns c = λ l held i h tail at count time fresh is file some few. made.linked_to l held i h is file tail fresh at count time some few

use Rattle.nv_mounted.proofs.Graphs as made
use Rattle.nv_mounted.proofs.names.graph_moved.Goals as goal

pub returns : goal.returns
returns c = λ l held d h tail at next i name other time fresh is directory good good_other. made.moved l held d h is directory tail fresh at next i name other time good good_other

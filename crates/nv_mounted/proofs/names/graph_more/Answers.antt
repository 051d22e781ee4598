use Rattle.nv_entry.specs.declared.entry.Operation.TheVariants.{Add}
use Rattle.nv_mounted.proofs.Graphs as made
use Rattle.nv_mounted.proofs.names.graph_more.Goals as goal

pub returns : goal.returns
returns c = λ l held d h tail at i name time fresh is directory good. made.one_name l held d h is directory tail fresh at Add i name time good

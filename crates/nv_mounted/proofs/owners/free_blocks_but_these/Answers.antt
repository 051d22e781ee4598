use Rattle.nv_mounted.proofs.Growing as made
use Rattle.nv_mounted.proofs.owners.free_blocks_but_these.Goals as goal

pub returns : goal.returns
returns c = λ l held i h new fresh is pages free file. made.free_but l held i h new is fresh pages free file

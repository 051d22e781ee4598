use Rattle.nv_tree.proofs.Replaced.{replaced_found, replaced_names}
use Rattle.nv_tree.proofs.replacing.names_after_replace.Goals as goal

pub returns : goal.returns
returns c = record {
  names = λ t i j d e first old name new time r. replaced_names time r;
  found = λ t i j d e first old name new time r bare. replaced_found time r bare;
}

use Rattle.nv_restored.proofs.Sound.{links_are_names}
use Rattle.nv_restored.proofs.laws.shown_link_counts_are_names.Goals as goal

pub returns : goal.returns
returns c = links_are_names

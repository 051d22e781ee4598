use Rattle.nv_inode.specs.Chains.{layout_of}
use Rattle.nv_inode.specs.Permitted.{is_permitted_by}
use Rattle.nv_journal.proofs.AnyLength.{all_quiet, dequeue_settled, quiet_same}
use Rattle.nv_journal.proofs.KeptLinks.{own_rule}
use Rattle.nv_journal.proofs.laws.undone_regions_are_quiet.Goals as goal

pub returns-clause-quiet : goal.returns-clause-quiet
returns-clause-quiet c s R layout = all_quiet (is_permitted_by (layout_of s R)) s.cpus (own_rule s R layout) R

pub returns-clause-emptied : goal.returns-clause-emptied
returns-clause-emptied c s R cpu layout = dequeue_settled (is_permitted_by (layout_of s R)) s.cpus (own_rule s R layout) R cpu

pub returns-clause-same : goal.returns-clause-same
returns-clause-same c s R layout = quiet_same (is_permitted_by (layout_of s R)) s.cpus (own_rule s R layout) R

use Rattle.nv_journal.proofs.LinksStay.{first_links_stay}
use Rattle.nv_journal.proofs.laws.commits_keep_the_links.Goals as goal

pub returns : goal.returns
returns c = first_links_stay

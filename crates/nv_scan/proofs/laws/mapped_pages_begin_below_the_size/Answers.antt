use Rattle.nv_scan.proofs.Sizes.{page_below}
use Rattle.nv_scan.proofs.laws.mapped_pages_begin_below_the_size.Goals as goal

pub returns : goal.returns
returns c = page_below

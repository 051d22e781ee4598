use Rattle.nv_scan.proofs.KindsApart.{directory_pages}
use Rattle.nv_scan.proofs.laws.directories_have_no_pages.Goals as goal

pub returns : goal.returns
returns c = directory_pages

use Rattle.nv_scan.proofs.KindsApart.{file_names}
use Rattle.nv_scan.proofs.laws.files_have_no_names.Goals as goal

pub returns : goal.returns
returns c = file_names

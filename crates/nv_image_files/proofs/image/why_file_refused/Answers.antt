use Rattle.std.proofs.Common.{◌∙◌}
use Rattle.nv_image_files.proofs.Beginnings.{known_first}
use Rattle.nv_image_files.proofs.image.why_file_refused.Goals as goal

pub returns-clause-content : goal.returns-clause-content
returns-clause-content c file begins = c.known_content.ensures ∙ known_first file c.args.count c.args.first.now begins

use Rattle.std.proofs.Common.{append_assoc}
use Rattle.nv_image_files.specs.Drawing.{number_line}
use Rattle.nv_image_files.proofs.drawing.push_number.Goals as goal

pub returns : goal.returns
unfolding number_line
returns c = simp append_assoc c.writeln.ensures.bytes

use Rattle.std.proofs.Common.{append_assoc}
use Rattle.nv_image_files.specs.Drawing.{head_line}
use Rattle.nv_image_files.proofs.drawing.push_head.Goals as goal

pub returns : goal.returns
unfolding head_line
returns c = simp append_assoc c.writeln.ensures.bytes

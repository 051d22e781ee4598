use Rattle.std.proofs.Common.{append_assoc}
use Rattle.nv_image_files.specs.Drawing.{each_line}
use Rattle.nv_image_files.proofs.drawing.push_each.Goals as goal

pub returns : goal.returns
unfolding each_line
returns c = simp append_assoc c.writeln.ensures.bytes

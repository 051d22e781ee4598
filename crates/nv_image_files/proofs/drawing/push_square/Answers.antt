use Rattle.std.proofs.Common.{append_assoc}
use Rattle.nv_image_files.specs.Drawing.{square_line}
use Rattle.nv_image_files.proofs.drawing.push_square.Goals as goal

pub returns : goal.returns
unfolding square_line
returns c = simp append_assoc (rw c.colour-colour.ensures at c.writeln.ensures.bytes)

use Rattle.std.proofs.Common.{append_assoc}
use Rattle.nv_image_files.specs.Drawing.{place_text}
use Rattle.nv_image_files.proofs.drawing.push_place.Goals as goal

pub returns : goal.returns
unfolding place_text
returns c = simp append_assoc (rw c.colour-colour.ensures at c.write.ensures.bytes)

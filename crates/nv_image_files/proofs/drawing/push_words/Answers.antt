use Rattle.std.proofs.Common.{append_assoc}
use Rattle.nv_image_files.specs.Drawing.{words_line}
use Rattle.nv_image_files.proofs.drawing.push_words.Goals as goal

pub returns : goal.returns
unfolding words_line
returns c = simp append_assoc c.writeln.ensures.bytes

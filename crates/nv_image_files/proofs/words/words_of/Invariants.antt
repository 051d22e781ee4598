use Rattle.nv_image_files.specs.Words.{AreTexts}
use Rattle.nv_image_files.proofs.words.words_of.Given as goal

abbrev pub invariant-loop-place : goal.invariant-loop-place
invariant-loop-place g l = AreTexts l.words

use Rattle.nv_image_files.proofs.OneWord.{one_word}
use Rattle.nv_image_files.proofs.words.words_of.Goals as goal

pub loop-place-preserved : goal.loop-place-preserved
loop-place-preserved g c =
    one_word c.loop-place.invariant.0 _ _ _ _ _ c.loop-place.invariant.1 c.loop-place.invariant.2 c.in_ok-push.ensures.texts c.in_ok-push.ensures.utf8

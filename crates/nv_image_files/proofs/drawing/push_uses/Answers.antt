use Rattle.nv_image_files.proofs.Squares.{use_more, no_uses}
use Rattle.nv_image_files.proofs.drawing.push_uses.Goals as goal

pub loop-place-preserved : goal.loop-place-preserved
loop-place-preserved c =
    let words = rw c.name.ensures at c.in_ok-push_words.ensures in
    use_more _ _ _ _ c.args.uses.now c.args.y c.loop-place.place _ c.loop-place-test.true c.loop-place.invariant c.in_ok-push_square.ensures words

pub returns : goal.returns
returns c = no_uses _ _ c.args.uses.now c.args.y c.loop-place.place c.loop-place-test.false c.loop-place.invariant

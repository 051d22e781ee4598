use Rattle.std.proofs.Common.{[]}
use Rattle.nv_line.proofs.NumberLists.{goes_on, stops, ends}
use Rattle.nv_line.proofs.shapes.numbers.Goals as goal

pub returns-in-None : goal.returns-in-None
returns-in-None c = stops c.loop-word.numbers.items c.args.words.now c.loop-word.word-index (record { ref_ptr = (0, 0); now = [] }) _ c.loop-word-test.true c.loop-word.invariant c.in-None.ensures

pub loop-word-preserved : goal.loop-word-preserved
loop-word-preserved c = rw c.in_ok-push-in-Some.ensures.items (goes_on c.loop-word.numbers.items c.args.words.now c.loop-word.word-index (record { ref_ptr = (0, 0); now = [] }) _ c.loop-word-test.true c.loop-word.invariant c.in-Some.number c.in-Some.ensures)

pub returns : goal.returns
returns c = ends c.loop-word.numbers.items c.args.words.now c.loop-word.word-index _ c.loop-word-test.false c.loop-word.invariant

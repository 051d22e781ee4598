use Rattle.std.proofs.Common.{arith, rules}
use Rattle.std.proofs.lemmas.List.{take_rest}
use Rattle.nv_region.proofs.Added.{word_more, words_end, rest_end, piece_added}
use Rattle.nv_region.proofs.pieces.push_words.Goals as goal

pub loop-left-preserved : goal.loop-left-preserved
loop-left-preserved c =
    let (words, rest, room, within) = c.loop-left.invariant in
    let on = word_more c.loop-left.words.items c.args.words.now.items c.loop-left.left.now c.args.bytes.now _ _ c.read_u64.result c.loop-left-test.true c.read_u64.ensures c.push_reserved.ensures.items (take_rest c.loop-left.left.now 8) (words, rest) in
    (on.0, on.1, omega arith, omega arith)

pub returns-clause-bytes : goal.returns-clause-bytes
returns-clause-bytes c =
    let left = c.loop-left.left.now in
    let bytes = c.args.bytes.now in
    piece_added c.args.words.now.items c.args.rest.now.items bytes _ _ c.requires.whole (λ i. omega (arith, (c.type_inv.bytes i).fits))
    (words_end c.loop-left.words.items c.args.words.now.items left bytes (omega (arith, c.loop-left-test.false)) c.loop-left.invariant.0)
    (rest_end c.args.rest.now.items c.extend_from_slice-fits.new.self.items left bytes (omega (arith, c.loop-left-test.false)) (search rules) c.loop-left.invariant.1)

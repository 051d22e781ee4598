use Rattle.std.proofs.Common.{arith}
use Rattle.nv_recover.proofs.MadeMaps.{covers}
use Rattle.nv_recover.proofs.sets.Sets.new.Goals as goal

pub returns-clause-cover : goal.returns-clause-cover
returns-clause-cover c =
    let words = covers c.args.sup.now.blocks c.words_for-words.result c.words_for-words.ensures in
    (omega (arith, words, c.in_ok-vec.ensures.len), omega (arith, words, c.in_ok-vec-2.ensures.len))

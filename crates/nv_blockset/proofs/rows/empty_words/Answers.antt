use Rattle.std.proofs.Common.{inl, inr, ◌/◌, ◌<◌, length, length-set, ◌∙◌, arith}
use Rattle.std.proofs.lemmas.Bool.{cases_eq}
use Rattle.nv_blockset.proofs.TakenOut.{there}
use Rattle.nv_blockset.proofs.FilledRows.{emptied}
use Rattle.nv_blockset.proofs.rows.empty_words.Goals as goal

pub loop-word-init : goal.loop-word-init
loop-word-init c =
    let within : c.args.from / 64 < length c.args.words.now = omega (arith, c.requires.order, c.requires.within) in
    record {
      count = length-set c.args.words.now (c.args.from / 64) 0;
      none = λ b low high. emptied c.args.words.now (c.args.from / 64) b within (omega (arith, low, high));
      others = λ b away. there c.args.words.now (c.args.from / 64) 0 within b (λ is. away (omega (arith, is)) (omega (arith, is)));
    }

pub loop-word-preserved : goal.loop-word-preserved
loop-word-preserved c =
    let was = c.loop-word.invariant in
    let words = c.loop-word.words in
    let word = c.loop-word.word in
    let within : word < length words = omega (arith, was.count, c.requires.within, c.loop-word-test.true) in
    record {
      count = length-set words word 0 ∙ was.count;
      none = λ b low high. elim (cases_eq (b / 64) word) [
        | inl is ↦ emptied words word b within is
        | inr other ↦ there words word 0 within b other ∙ was.none b low (omega (arith, high, other))
      ];
      others = λ b away. there words word 0 within b (λ is. away (omega (arith, is, c.loop-word.auto.word)) (omega (arith, is))) ∙ was.others b (λ low high. away low (omega (arith, high)));
    }

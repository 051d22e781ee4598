use Rattle.std.proofs.Common.{List, ℕ, ◌++◌, ◌<◌, length, sym, ap, ◌∙◌, arith}
use Rattle.nv_region.specs.Region.{words_of}
use Rattle.nv_region.proofs.Bytes.{word_at}
use Rattle.nv_region.proofs.Fronted.{word_added, copied_to, count_of_words}
use Rattle.nv_region.proofs.image.read_front.Goals as goal

pub loop-number-preserved : goal.loop-number-preserved
loop-number-preserved c =
    let inside : c.loop-number.number < length (words_of c.args.bytes.now) = omega (arith, count_of_words c.args.bytes.now, c.requires.within, c.loop-number-test.true) in record {
      from = omega arith;
      to = omega arith;
      room = omega arith;
      so_far = c.push_reserved.ensures.items ∙ word_added c.args.front.now.items (words_of c.args.bytes.now) _ c.loop-number.number c.word_at.result c.loop-number.invariant.from inside
          (c.word_at.ensures ∙ sym (word_at c.loop-number.number c.args.bytes.now (omega arith))) c.loop-number.invariant.so_far;
    }

pub returns-clause-words : goal.returns-clause-words
returns-clause-words c =
    c.loop-number.invariant.so_far ∙ ap (λ (l : List ℕ). c.args.front.now.items ++ l)
    (copied_to (length c.args.front.now.items) c.loop-number.number c.args.count (words_of c.args.bytes.now) c.loop-number.invariant.from (omega arith) c.loop-number.invariant.to)

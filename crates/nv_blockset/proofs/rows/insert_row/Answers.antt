use Rattle.std.proofs.Common.{◌+◌, ◌-◌, ◌/◌, ◌%◌, ◌<◌, ◌≤◌, ℕ, inl, inr, length, length-set, ◌∙◌, arith}
use Rattle.std.proofs.lemmas.Bool.{cases_lt}
use Rattle.nv_blockset.proofs.FilledRows.{row_in, row_out}
use Rattle.nv_blockset.proofs.rows.insert_row.Goals as goal

pub loop-here-preserved : goal.loop-here-preserved
loop-here-preserved c =
    let was = c.loop-here.invariant in
    let words = c.loop-here.words in
    let from : ℕ = c.loop-here.here in
    let next : ℕ = c.min-next.result in
    let within : from / 64 < length words = omega (arith, c.loop-here-test.true, c.requires.within, was.count) in
    let rises : from < next = omega (arith, c.min-next.ensures, c.loop-here-test.true) in
    let one : next ≤ from - from % 64 + 64 = omega (arith, c.min-next.ensures) in
    let inside = c.ones.ensures.inside in
    let outside = c.ones.ensures.outside in
    record {
      from = omega (arith, was.from, rises);
      to = omega (arith, c.min-next.ensures);
      count = length-set words (from / 64) _ ∙ was.count;
      row = λ b low high. elim (cases_lt b from) [
        | inl before ↦ row_out words from next c.ones.result within rises one inside outside b (λ from_here _. absurd (omega (arith, before, from_here))) ∙ was.row b low before
        | inr behind ↦ row_in words from next c.ones.result within rises one inside outside b behind high
      ];
      others = λ b away.
          row_out words from next c.ones.result within rises one inside outside b (λ low high. away (omega (arith, was.from, low)) high)
          ∙ was.others b (λ low high. away low (omega (arith, high, rises)));
    }

use Rattle.std.proofs.Common.{arith, ◌∙◌, ◌*◌, ◌/◌, ◌^◌, ◌<◌, ◌≡◌}
use Rattle.std.proofs.lemmas.Bool.Decides.{nat_tests}
use Rattle.nv_entry.proofs.Words.{high_part_shifted}
use Rattle.nv_entry.proofs.reading.has_high_part.Goals as goal

pub returns-then-count-lt8-clause-some : goal.returns-then-count-lt8-clause-some
returns-then-count-lt8-clause-some c = λ some.
    let more : 0 < c.args.word / 2 ^ (8 * c.args.count) = grind (arith, nat_tests) in
    rw (high_part_shifted c.args.count c.args.word) more

pub returns-then-count-lt8-clause-none : goal.returns-then-count-lt8-clause-none
returns-then-count-lt8-clause-none c = λ none.
    let zero : c.args.word / 2 ^ (8 * c.args.count) ≡ 0 = grind (arith, nat_tests) in
    high_part_shifted c.args.count c.args.word ∙ zero

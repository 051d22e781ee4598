use Rattle.std.proofs.Common.{◌∙◌}
use Rattle.nv_line.proofs.Numbers.{found_says, writes_again}
use Rattle.nv_line.proofs.numeral.number.Goals as goal

pub returns-clause-found : goal.returns-clause-found
returns-clause-found c = found_says c.args.word.now c.read_number.result c.read_number.ensures

pub returns-clause-only : goal.returns-clause-only
returns-clause-only c = λ n writes. c.read_number.ensures ∙ writes_again c.args.word.now n writes

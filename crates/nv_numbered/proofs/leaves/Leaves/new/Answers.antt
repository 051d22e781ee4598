use Rattle.std.proofs.Common.{◌∙◌, ap}
use Rattle.nv_numbered.specs.Leaved.{words_of}
use Rattle.nv_numbered.proofs.WordLemmas.{words_none}
use Rattle.nv_numbered.proofs.leaves.Leaves.new.Goals as goal

pub returns-clause-items : goal.returns-clause-items
returns-clause-items c =
    c.in_ok-reserve.ensures.items
    ∙ ap (λ lists. words_of lists c.args.len) c.in_ok-bare_leaves.ensures
    ∙ words_none c.div_ceil-count.result c.args.len

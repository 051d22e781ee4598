use Rattle.std.proofs.Common.{◌∙◌, sym}
use Rattle.nv_deadpages.proofs.Unspared.{listed_in}
use Rattle.nv_deadpages.proofs.marks.has_block.Goals as goal

pub returns-then-block-sup : goal.returns-then-block-sup
returns-then-block-sup c = λ yes. listed_in c.args.block c.args.blocks.now.blocks (sym c.contains.ensures ∙ yes)

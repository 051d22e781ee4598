use Rattle.std.proofs.Common.{◌∙◌, ap, get_or, arith}
use Rattle.nv_super.proofs.ClassNames.{class_below, class_named}
use Rattle.nv_super.proofs.faults.Fault.class.Goals as goal

pub class_name-requires : goal.class_name-requires
class_name-requires c = let is = ap (λ xs. get_or xs 0 0) c.key.ensures in let below = class_below c.args.self.now in omega (arith, is, below)

pub returns : goal.returns
returns c = c.class_name.ensures ∙ class_named c.args.self.now c.key.result.class (ap (λ xs. get_or xs 0 0) c.key.ensures)

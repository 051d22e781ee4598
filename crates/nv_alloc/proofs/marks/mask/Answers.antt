use Rattle.nv_alloc.proofs.SetParts.{mask_inside, mask_outside}
use Rattle.nv_alloc.proofs.marks.mask.Goals as goal

pub returns-clause-inside : goal.returns-clause-inside
returns-clause-inside c = mask_inside c.args.from c.args.to c.requires.some c.requires.part

pub returns-clause-outside : goal.returns-clause-outside
returns-clause-outside c = mask_outside c.args.from c.args.to c.requires.some c.requires.part

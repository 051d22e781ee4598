use Rattle.std.proofs.Common.{arith}
use Rattle.nv_blockset.proofs.FilledRows.{mask_inside, mask_outside}
use Rattle.nv_blockset.proofs.rows.ones.Goals as goal

pub returns-clause-inside : goal.returns-clause-inside
returns-clause-inside c i low high = mask_inside c.args.from c.args.to i c.requires.1 low high

pub returns-clause-outside : goal.returns-clause-outside
returns-clause-outside c i within away = mask_outside c.args.from c.args.to i (omega (arith, c.requires.0, c.requires.1)) c.requires.1 away

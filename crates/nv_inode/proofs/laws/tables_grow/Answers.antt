use Rattle.std.proofs.Common.{refl, arith}
use Rattle.nv_super.specs.Layout.{slot_of}
use Rattle.nv_inode.specs.Numbers.{next_number}
use Rattle.nv_inode.proofs.GrownTables as made
use Rattle.nv_inode.proofs.laws.tables_grow.Goals as goal

pub returns-clause-laid : goal.returns-clause-laid
returns-clause-laid c = λ l cpu b laid two below from to fresh. made.grown_laid l cpu b (let each = laid.each in omega (arith, each, below)) laid two from to fresh

pub returns-clause-sizes : goal.returns-clause-sizes
returns-clause-sizes c = λ l cpu b laid below. made.grown_sizes l cpu laid below b

pub returns-clause-before : goal.returns-clause-before
returns-clause-before c = λ l cpu laid below. made.next_has_none l cpu laid below (slot_of l (next_number l cpu)) refl

pub returns-clause-slot : goal.returns-clause-slot
returns-clause-slot c = λ l cpu b laid below. made.next_has l cpu laid below b

pub returns-clause-apart : goal.returns-clause-apart
returns-clause-apart c = made.link_apart

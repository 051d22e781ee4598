use Rattle.std.proofs.Common.{List, subst}
use Rattle.nv_super.specs.declared.faults.Fault.{Fault}
use Rattle.nv_super.specs.Order.{fault_key, SortedOf}
use Rattle.nv_recover.proofs.Answers.{told_of}
use Rattle.nv_recover.proofs.finishing.all_faults.Goals as goal

pub returns : goal.returns
returns c = subst (λ (told : List Fault). SortedOf fault_key told c.sort_faults.new.faults.items)
    (told_of c.args.journal.items c.args.chained.now c.args.own.now c.args.cross.now c.args.doubled.now c.in_ok-extend_from_slice.ensures.items c.in_ok-extend_from_slice-2.ensures.items c.in_ok-extend_from_slice-3.ensures.items c.in_ok-push_doubled.ensures) c.sort_faults.ensures

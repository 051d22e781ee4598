use Rattle.nv_deadpages.proofs.Deciding.{where_done}
use Rattle.nv_deadpages.proofs.DeadRuns.{run_is, told_same}
use Rattle.nv_deadpages.proofs.in_turn.says_the_same.Goals as goal

pub fold_without_pages-requires-clause-none : goal.fold_without_pages-requires-clause-none
fold_without_pages-requires-clause-none g c = c.new-fold.ensures c.args.sup.now c.args.row.now.kind c.args.row.now.inode

pub returns : goal.returns
returns g c = where_done c.says_row.result _ _ c.says_row.ensures.yes (λ same says yes.
    told_same c.in-Some.out.blocks _ (run_is _ c.in-Some.out c.as_slice.result.now c.args.row.now.pages.items c.args.first c.args.count c.in-Some.is c.in_ok-out.ensures.same c.as_slice.ensures) c.in_ok-_fault.ensures (says yes))

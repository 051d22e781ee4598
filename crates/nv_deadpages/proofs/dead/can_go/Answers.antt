use Rattle.nv_deadpages.proofs.Deciding as told
use Rattle.nv_deadpages.proofs.dead.can_go.Goals as goal

pub fold_without-requires-clause-none : goal.fold_without-requires-clause-none
fold_without-requires-clause-none g c = c.new-fold.ensures c.args.sup.now c.args.row.now.kind c.args.row.now.inode

pub returns-clause-yes : goal.returns-clause-yes
returns-clause-yes g c =
    told.where_done c.says_row.result _ _ c.says_row.ensures.yes (λ can says yes es is.
    told.can (g.P.Pmem.region c.args.memory.now) c.args.sup.now c.args.created es c.args.row.now c.args.page c.fold_without.new.fold c.fold_without.new.reader.pages c.in_ok-_fault._fault is c.in_ok-_fault.ensures (says yes))

pub returns-clause-no : goal.returns-clause-no
returns-clause-no g c =
    told.where_done c.says_row.result _ _ c.says_row.ensures.no (λ can differ no es is go.
    differ no (told.says (g.P.Pmem.region c.args.memory.now) c.args.sup.now c.args.created es c.args.row.now c.args.page c.fold_without.new.fold c.fold_without.new.reader.pages c.in_ok-_fault._fault is c.in_ok-_fault.ensures go))

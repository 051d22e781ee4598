use Rattle.nv_deadpages.proofs.Changing.{changes_needed}
use Rattle.nv_deadpages.proofs.changes.add_changes.Goals as goal

pub find_changes-requires-clause-none : goal.find_changes-requires-clause-none
find_changes-requires-clause-none g c = c.new-fold.ensures c.args.sup.now c.args.row.now.kind c.args.row.now.inode

pub returns-clause-needed : goal.returns-clause-needed
returns-clause-needed g c =
    changes_needed (g.P.Pmem.region c.args.memory.now) c.args.sup.now c.args.row.now c.args.created c.in_ok-stamps.stamps.index c.find_changes.new.found.blocks c.find_changes.new.reader.pages c.in_ok-_fault._fault c.in_ok-stamps.ensures c.in_ok-_fault.ensures.changes

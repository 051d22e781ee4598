use Rattle.nv_inspect.proofs.ReadNames.{read_have_names}
use Rattle.nv_inspect.proofs.logs.push_read.Goals as goal

pub fates_of-requires-clause-names : goal.fates_of-requires-clause-names
fates_of-requires-clause-names g c = rw c.deref.ensures.value (read_have_names (g.P.Pmem.region c.args.memory.now) c.sup-sup.result.now c.args.row.now.tail c.in_ok-log.ensures)

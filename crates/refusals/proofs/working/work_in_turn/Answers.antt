use Rattle.std.proofs.Common.{arith}
use Rattle.nv_recover.proofs.Tickets.{tickets_few}
use Rattle.refusals.proofs.working.work_in_turn.Goals as goal

pub opened-requires-clause-numbers : goal.opened-requires-clause-numbers
opened-requires-clause-numbers c = let few = tickets_few c.args.tables.now.layout c.are_laid.ensures in omega (arith, few, c.ticket_count.ensures)

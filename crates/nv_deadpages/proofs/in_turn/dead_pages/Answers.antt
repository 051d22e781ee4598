use Rattle.nv_deadpages.proofs.DeadRuns.{row_turns}
use Rattle.nv_deadpages.proofs.in_turn.dead_pages.Goals as goal

pub returns-in_ok-count-in-File-clause-dead : goal.returns-in_ok-count-in-File-clause-dead
returns-in_ok-count-in-File-clause-dead g c = λ es is clean. (
  c.in_ok-count-in-File.ensures.some,
  row_turns (g.P.Pmem.region c.args.memory.now) c.args.sup.now c.args.created c.args.row.now _ c.in-Some.first c.in_ok-count-in-File.count c.in-File.is c.requires.right c.in-Some.is c.in_ok-count-in-File.ensures.inside c.in_ok-first.ensures.first c.in_ok-count-in-File.ensures.same es is clean,
)

use Rattle.nv_journal.specs.Undone.{AllQuiet}
use Rattle.nv_metadata.proofs.gathering.may_be_pending.Given as goal

-- the journals before it have nothing to roll back
abbrev pub invariant-loop-cpu : goal.invariant-loop-cpu
invariant-loop-cpu g l = AllQuiet l.cpu (g.P.Pmem.region l.memory)

use Rattle.nv_host.specs.Walking.{IsWalked}
use Rattle.nv_host.proofs.walking.walk.Given as goal

abbrev pub invariant-loop-next : goal.invariant-loop-next
invariant-loop-next g l = IsWalked l.root l.entries.items l.next

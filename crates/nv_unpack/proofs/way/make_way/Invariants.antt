use Rattle.nv_unpack.proofs.Stepping.{WayGoing}
use Rattle.nv_unpack.proofs.way.make_way.Given as goal

abbrev pub invariant-loop-at : goal.invariant-loop-at
invariant-loop-at l = WayGoing l.maker l.time l.text l.fn.mount l.mount l.at

use Rattle.std.proofs.Common.{arith}
use Rattle.nv_metadata.proofs.Ready.{ready_whole}
use Rattle.nv_metadata.proofs.Shown.{shows_first}
use Rattle.nv_metadata.proofs.Whole.{gathered_whole}
use Rattle.nv_metadata.proofs.gathering.hold_whole.Goals as goal

pub returns-clause-gathered : goal.returns-clause-gathered
returns-clause-gathered c image long are =
    let s = c.args.sup.now in
    let made = c.in_ok-memory.ensures in
    let shows = shows_first image c.args.bytes.items s.blocks c.in_ok-memory.memory long are made.open.0 (let count = c.requires.whole.count in omega (arith, count)) made.blocks made.front made.zeros made.none in
    gathered_whole s image c.args.bytes.items c.in_ok-memory.memory c.requires.layout c.requires.whole long are made.open.0 shows made.zeros

pub returns-clause-ready : goal.returns-clause-ready
returns-clause-ready c = (let made = c.in_ok-memory.ensures in ready_whole c.args.sup.now c.args.bytes.items c.in_ok-memory.memory c.requires.layout c.requires.whole made.blocks made.front made.open)

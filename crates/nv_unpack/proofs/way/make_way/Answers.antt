use Rattle.nv_unpack.proofs.Going.{follows}
use Rattle.nv_unpack.proofs.Stepping.{way_begins, way_goes_on, way_refused}
use Rattle.nv_unpack.proofs.way.make_way.Goals as goal

pub loop-at-init : goal.loop-at-init
loop-at-init c = way_begins c.args.maker c.args.time c.args.text.now c.args.mount.now c.requires

pub loop-at-preserved : goal.loop-at-preserved
loop-at-preserved c =
    way_goes_on c.args.maker c.args.time c.args.text.now c.args.mount.now c.loop-at.mount c.make_above.new.mount c.loop-at.at c.loop-at.invariant c.make_above.ensures.goes c.in_default.ensures.made

pub returns-in-Err-clause-refused : goal.returns-in-Err-clause-refused
returns-in-Err-clause-refused c =
    way_refused c.args.maker c.args.time c.args.text.now c.args.mount.now c.loop-at.mount c.make_above.new.mount c.loop-at.at c.loop-at.invariant c.make_above.ensures.goes c.in-Err.refusal c.loop-at-test.true c.in-Err.ensures.refused

pub returns-in-Err-clause-goes : goal.returns-in-Err-clause-goes
returns-in-Err-clause-goes c =
    let going = c.loop-at.invariant in
    follows c.args.mount.now c.loop-at.mount c.make_above.new.mount going.goes c.make_above.ensures.goes

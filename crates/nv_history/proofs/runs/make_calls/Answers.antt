use Rattle.std.proofs.Common.{◌∙◌}
use Rattle.nv_history.proofs.Going.{all_made, begins, goes_on, halted_keeps, halts, left_halted, left_whole, whole_keeps}
use Rattle.nv_history.proofs.runs.make_calls.Goals as goal

pub loop-made-init : goal.loop-made-init
loop-made-init g c = begins g.P.Pmem.region g.P.Pmem.fuse c.args.calls.now c.args.mount.now

pub loop-made-preserved : goal.loop-made-preserved
loop-made-preserved g c =
    goes_on g.P.Pmem.region g.P.Pmem.may_hold g.P.Pmem.fuse c.args.calls.now c.args.mount.now c.loop-made.mount c.make_call.new.mount c.loop-made.made c.loop-made.invariant c.keeps.ensures _ c.loop-made-test.true
    c.make_call.result (λ e is. c.in_default.not-Err e is) c.make_call.ensures

-- ---- a call is refused

pub returns-in-Err-clause-halted : goal.returns-in-Err-clause-halted
returns-in-Err-clause-halted g c =
    halts g.P.Pmem.region g.P.Pmem.may_hold g.P.Pmem.fuse c.args.calls.now c.args.mount.now c.loop-made.mount c.make_call.new.mount c.loop-made.made c.loop-made.invariant c.keeps.ensures _ c.loop-made-test.true
    c.in-Err.refusal c.in-Err.ensures

pub returns-in-Err-clause-run : goal.returns-in-Err-clause-run
returns-in-Err-clause-run g c =
    halted_keeps g.P.Pmem.region g.P.Pmem.may_hold g.P.Pmem.fuse c.args.calls.now c.args.mount.now c.loop-made.mount c.make_call.new.mount c.loop-made.made c.loop-made.invariant c.keeps.ensures _ c.loop-made-test.true
    c.in-Err.refusal c.in-Err.ensures

pub returns-in-Err-clause-any_stop : goal.returns-in-Err-clause-any_stop
returns-in-Err-clause-any_stop g c = λ runs writes.
    let going = c.loop-made.invariant in
    let off = going.runs ∙ runs in
    let on = going.mode ∙ writes in
    left_halted g.P.Pmem.region g.P.Pmem.may_hold g.P.Pmem.fuse c.args.calls.now c.args.mount.now c.loop-made.mount c.make_call.new.mount c.loop-made.made going c.keeps.ensures _ c.loop-made-test.true
    c.in-Err.refusal c.in-Err.ensures off on (c.recovers_as_mounted.ensures off on)

-- ---- all were made

pub returns-clause-made : goal.returns-clause-made
returns-clause-made g c = all_made g.P.Pmem.region g.P.Pmem.fuse c.args.calls.now c.args.mount.now c.loop-made.mount c.loop-made.made c.loop-made.invariant c.loop-made-test.false

pub returns-clause-run : goal.returns-clause-run
returns-clause-run g c = whole_keeps g.P.Pmem.region g.P.Pmem.fuse c.args.calls.now c.args.mount.now c.loop-made.mount c.loop-made.made c.loop-made.invariant c.loop-made-test.false

pub returns-clause-any_stop : goal.returns-clause-any_stop
returns-clause-any_stop g c = λ runs writes.
    let going = c.loop-made.invariant in
    left_whole g.P.Pmem.region g.P.Pmem.fuse c.args.calls.now c.args.mount.now c.loop-made.mount c.loop-made.made going c.loop-made-test.false g.P.Pmem.may_hold c.keeps-2.ensures
    (c.recovers_as_mounted-2.ensures (going.runs ∙ runs) (going.mode ∙ writes))

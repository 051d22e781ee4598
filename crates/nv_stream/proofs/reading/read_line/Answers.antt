use Rattle.std.proofs.Common.{arith, rules}
use Rattle.nv_stream.proofs.LineLemmas.{takes_ended, takes_last, takes_none, takes_long}
use Rattle.nv_stream.proofs.reading.read_line.Goals as goal

pub returns-in-Some-eq10-clause-ok : goal.returns-in-Some-eq10-clause-ok
returns-in-Some-eq10-clause-ok g c = takes_ended _ _ _ c.bytes.line.items c.bytes.invariant.1 (omega arith) c.bytes.invariant.0 (rw (c.in-Some-eq10.is, c.in-Some-eq10.field-0-test) at c.in_ok-next_byte.ensures.ok)

pub returns-in-None-clause-ok : goal.returns-in-None-clause-ok
returns-in-None-clause-ok g c =
    let given = rw c.in-None.is at c.in_ok-next_byte.ensures.ok in
    takes_none _ _ _ c.bytes.line.items (search rules) c.bytes.invariant.0 given.0 given.1

pub returns-in-None-2-clause-ok : goal.returns-in-None-2-clause-ok
returns-in-None-2-clause-ok g c =
    let given = rw c.in-None.is at c.in_ok-next_byte.ensures.ok in
    takes_last _ _ _ c.bytes.line.items c.bytes.invariant.1 (search rules) (omega arith) c.bytes.invariant.0 given.0 given.1

pub returns-clause-ok : goal.returns-clause-ok
returns-clause-ok g c = takes_long _ _ c.bytes.line.items c.bytes.invariant.1 (omega arith) c.bytes.invariant.0

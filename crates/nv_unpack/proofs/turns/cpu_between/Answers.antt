use Rattle.std.proofs.Common.{arith}
use Rattle.nv_paths.specs.Seen.{tree_of}
use Rattle.nv_unpack.proofs.Unused.{has_one, none_between}
use Rattle.nv_unpack.proofs.turns.cpu_between.Goals as goal

pub loop-cpu-init : goal.loop-cpu-init
loop-cpu-init c = λ cpu low high. absurd (omega (arith, low, high))

pub loop-cpu-preserved : goal.loop-cpu-preserved
loop-cpu-preserved c =
    let m = c.args.mount.now in
    none_between m.sup (tree_of m.memory.region m.rows) c.args.from c.loop-cpu.cpu c.loop-cpu.invariant c.has_number.result c.has_number.ensures c.if-has_number.false

pub returns-then-has_number-clause-some : goal.returns-then-has_number-clause-some
returns-then-has_number-clause-some c =
    let m = c.args.mount.now in
    (c.loop-cpu-test.true, has_one m.sup (tree_of m.memory.region m.rows) c.loop-cpu.cpu c.has_number.result c.has_number.ensures c.if-has_number.true)

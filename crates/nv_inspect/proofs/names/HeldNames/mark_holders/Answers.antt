use Rattle.std.proofs.Common.{arith}
use Rattle.nv_inspect.proofs.ListedNames.{all_told, none_told, one_told}
use Rattle.nv_inspect.proofs.names.HeldNames.mark_holders.Goals as goal

pub loop-k-init : goal.loop-k-init
loop-k-init c = record { listed = c.in_ok-listed.ensures; marked = none_told c.args.by c.in_ok-listed.listed.items c.args.marks.now }

pub loop-k-preserved : goal.loop-k-preserved
loop-k-preserved c =
    let line = c.index-line.result.now in
    record {
      listed = c.loop-k.invariant.listed;
      marked = one_told c.args.by c.in_ok-listed.listed.items c.loop-k.k line c.args.marks.now c.loop-k.marks c.mark.new.takers (let end = c.len-k-end.ensures in let below = c.loop-k-test.true in omega (arith, end, below)) c.index-line.ensures
          c.loop-k.invariant.marked c.mark.ensures;
    }

pub returns : goal.returns
returns c = all_told c.args.by c.in_ok-listed.listed.items c.args.self.now.holders c.loop-k.k c.args.marks.now c.loop-k.marks c.loop-k.invariant.listed (let end = c.len-k-end.ensures in let past = c.loop-k-test.false in omega (arith, end, past))
    c.loop-k.invariant.marked

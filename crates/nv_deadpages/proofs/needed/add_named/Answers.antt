use Rattle.std.proofs.Common.{sym, arith}
use Rattle.nv_deadpages.proofs.SameIndexes.{named_line}
use Rattle.nv_deadpages.proofs.Unspared.{needed_more, named_needed}
use Rattle.nv_deadpages.proofs.needed.add_named.Goals as goal

pub loop-k-preserved : goal.loop-k-preserved
loop-k-preserved g c =
    let n = c.index-named.result.now in
    let line = named_line c.args.row.now.names c.in_ok-listed.listed.items c.loop-k.invariant.listed n
    (c.loop-k.k, (let end = c.len-k-end.ensures in let below = c.loop-k-test.true in omega (arith, end, below)), sym c.index-named.ensures) in
    record {
      listed = c.loop-k.invariant.listed;
      bound = c.add_block.ensures.bound;
      needed = λ before. needed_more (g.P.Pmem.region c.args._memory.now) c.args.sup.now c.args._created c.args.row.now c.loop-k.needed.blocks c.add_block.new.blocks.blocks _ c.in_ok-add_block.ensures.only
          (named_needed (g.P.Pmem.region c.args._memory.now) c.args.sup.now c.args._created c.args.row.now n.name.now n.inode n.place line) (c.loop-k.invariant.needed before);
    }

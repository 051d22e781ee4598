use Rattle.std.proofs.Common.{sym, arith}
use Rattle.nv_deadpages.proofs.SameIndexes.{all_found, not_found, one_more_found}
use Rattle.nv_deadpages.proofs.dead.has_all.Goals as goal

pub returns-then-not-is_at-clause-no : goal.returns-then-not-is_at-clause-no
returns-then-not-is_at-clause-no c = λ e same.
    not_found c.args.of.now c.args.index.now c.in_ok-listed.listed.items c.index-named.result.now c.loop-k.invariant.listed
    (c.loop-k.k, (let end = c.len-k-end.ensures in let below = c.loop-k-test.true in omega (arith, end, below)), sym c.index-named.ensures) (c.is_at.ensures.no c.if-not-is_at.true) same

pub loop-k-preserved : goal.loop-k-preserved
loop-k-preserved c = record {
  listed = c.loop-k.invariant.listed;
  found = one_more_found c.args.index.now c.in_ok-listed.listed.items c.loop-k.k c.index-named.result.now c.loop-k.invariant.found c.index-named.ensures (c.is_at.ensures.yes c.if-not-is_at.false);
}

pub returns-clause-yes : goal.returns-clause-yes
returns-clause-yes c = λ e q x there.
    all_found c.args.of.now c.args.index.now c.in_ok-listed.listed.items c.loop-k.invariant.listed
    (λ j below. c.loop-k.invariant.found j (let end = c.len-k-end.ensures in let past = c.loop-k-test.false in omega (arith, end, below, past))) q x there

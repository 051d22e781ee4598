use Rattle.std.proofs.Common.{◌≡◌, ◌*◌, inr, ℕ, drop, take, subst, arith}
use Rattle.nv_deadpages.specs.InTurn.{SaysTheSame}
use Rattle.nv_deadpages.proofs.in_turn.count_in_turn.Goals as goal

pub loop-count-preserved : goal.loop-count-preserved
loop-count-preserved g c =
    let some = c.loop-count.invariant.some in
    let twice : 2 * c.loop-count.count ≡ c.loop-count.count * 2 = omega arith in
    record {
      some = omega (arith, some);
      few = omega (arith, c.loop-count-test.true);
      same = inr (subst (λ (n : ℕ). SaysTheSame (g.P.Pmem.region c.args.memory.now) c.args.sup.now c.args.created c.args.row.now (take n (drop c.args.first c.args.row.now.pages.items))) twice (c.in_ok-says_the_same-2.ensures c.if-not-branch.false));
    }

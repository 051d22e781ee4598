use Rattle.std.proofs.Common.{◌∙◌, ◌+◌, ap, sym, arith}
use Rattle.nv_inspect.specs.Entry.{lies_in}
use Rattle.nv_inspect.proofs.Counting.{counted_all, counted_no, counted_yes}
use Rattle.nv_inspect.proofs.entries.pages_standing.Goals.{then-lies_in, else-lies_in}
use Rattle.nv_inspect.proofs.entries.pages_standing.Goals as goal

pub loop-k-preserved : goal.loop-k-preserved
loop-k-preserved c =
    let index = c.args.index.now in
    let e = c.args.e.now in
    let k = c.loop-k.k in
    let end = c.from-k-end.ensures in
    let test = c.loop-k-test.true in
    let few = c.loop-k.invariant.1 in
    let lies = ap (λ x. lies_in x (e.block + k)) (sym c.get.ensures) ∙ sym c.lies_in.ensures in
    elim c.if-lies_in.branch [
      | then-lies_in w ↦ (let is = w.stands-is in (counted_yes index e k c.loop-k.stands c.if-lies_in.stands c.loop-k.invariant.0 (omega (arith, test, end)) (lies ∙ w.if-lies_in.true) is, omega (arith, few, is)))
      | else-lies_in w ↦ (let is = w.stands-is in (counted_no index e k c.loop-k.stands c.if-lies_in.stands c.loop-k.invariant.0 (omega (arith, test, end)) (lies ∙ w.if-lies_in.false) is, omega (arith, few, is)))
    ]

pub returns : goal.returns
returns c =
    let end = c.from-k-end.ensures in
    let past = c.loop-k-test.false in
    counted_all c.args.index.now c.args.e.now c.loop-k.k c.loop-k.stands c.loop-k.stands c.loop-k.invariant.0 (omega (arith, past, end))

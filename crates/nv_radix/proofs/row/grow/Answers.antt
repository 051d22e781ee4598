use Rattle.std.proofs.Common.{arith, map}
use Rattle.std.proofs.lemmas.List.{map-append}
use Rattle.nv_radix.proofs.RowSteps.{IsGrown-none, IsGrown-push}
use Rattle.nv_radix.proofs.row.grow.Goals as goal

pub loop-init : goal.loop-init
loop-init g c = (IsGrown-none g.N.Node.span (map g.N.Node.pages c.args.nodes.now.items), omega (arith, c.len-counter.ensures, c.args.nodes.now.ok.0), omega arith)

pub returns-in_err-push-clause-same : goal.returns-in_err-push-clause-same
returns-in_err-push-clause-same g c = λ i. rw c.in_err-push.ensures.items (c.loop.invariant.0.same i)

pub returns-in_err-push-clause-nodes : goal.returns-in_err-push-clause-nodes
returns-in_err-push-clause-nodes g c = λ h. rw c.in_err-push.ensures.items (c.loop.invariant.0.nodes h)

pub returns-in_err-push-clause-few : goal.returns-in_err-push-clause-few
returns-in_err-push-clause-few g c = rw c.in_err-push.ensures.items (omega (arith, c.loop.invariant.1, c.loop-test.true))

pub loop-preserved : goal.loop-preserved
loop-preserved g c = (
  rw (c.in_ok-push.ensures.items, map-append g.N.Node.pages) (IsGrown-push g.N.Node.span _ _ _ c.new.ensures c.loop.invariant.0),
  omega (arith, c.in_ok-push.ensures.len, c.push.new.self.ok.0, c.loop.nodes.ok.0, c.loop.invariant.1),
  omega (arith, c.in_ok-push.ensures.len, c.push.new.self.ok.0, c.loop.nodes.ok.0, c.loop.invariant.1, c.loop-test.true),
)

pub returns-clause-same : goal.returns-clause-same
returns-clause-same g c = c.loop.invariant.0.same

pub returns-clause-nodes : goal.returns-clause-nodes
returns-clause-nodes g c = c.loop.invariant.0.nodes

pub returns-clause-few : goal.returns-clause-few
returns-clause-few g c = c.loop.invariant.2

pub returns-clause-enough : goal.returns-clause-enough
returns-clause-enough g c = omega (arith, c.loop.invariant.1, c.loop-test.false)

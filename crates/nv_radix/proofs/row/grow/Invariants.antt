use Rattle.std.proofs.Common.{◌≡◌, ◌≤◌, max, length, map}
use Rattle.nv_radix.proofs.RowSteps.{IsGrown}
use Rattle.nv_radix.proofs.row.grow.Given as goal

abbrev pub invariant-loop : goal.invariant-loop
invariant-loop g l = IsGrown g.N.Node.span (map g.N.Node.pages l.fn.nodes.items) (map g.N.Node.pages l.nodes.items) × (length l.nodes.items ≡ l.counter) × (length l.nodes.items ≤ max l.count (length l.fn.nodes.items))

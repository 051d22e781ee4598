use Rattle.std.proofs.Common.{take, map, ◌++◌}
use Rattle.nv_radix.specs.Pages.{Pages}
use Rattle.nv_radix.specs.Extents.{AreExtents}
use Rattle.nv_radix.specs.Rising.{Rises}
use Rattle.nv_radix.specs.Nodes.{raised, in_row}
use Rattle.nv_radix.proofs.row.RowNode.add_pages.Given as goal

abbrev pub invariant-loop-place : goal.invariant-loop-place
invariant-loop-place g l = (m : Pages) → Rises 0 l.base m → AreExtents m l.initial.extents.items → AreExtents (m ++ raised l.base (in_row g.N.Node.span (take l.place (map g.N.Node.pages l.node-items)))) l.extents.items

use Rattle.std.proofs.Common.{take, ◌++◌}
use Rattle.nv_radix.specs.Pages.{Pages}
use Rattle.nv_radix.specs.Extents.{AreExtents}
use Rattle.nv_radix.specs.Rising.{Rises}
use Rattle.nv_radix.specs.Nodes.{raised, leaf_pages}
use Rattle.nv_radix.proofs.places.add_places.Given as goal

abbrev pub invariant-loop-place : goal.invariant-loop-place
invariant-loop-place l = (m : Pages) → Rises 0 l.base m → AreExtents m l.initial.extents.items → AreExtents (m ++ raised l.base (leaf_pages l.mapped (take l.place l.blocks) 0)) l.extents.items

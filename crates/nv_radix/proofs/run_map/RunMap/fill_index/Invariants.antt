use Rattle.nv_radix.specs.Extents.{AreExtents}
use Rattle.nv_radix.proofs.Indexing.{IsIndexed}
use Rattle.nv_radix.proofs.run_map.RunMap.fill_index.Given as goal

abbrev pub invariant-loop-page : goal.invariant-loop-page
invariant-loop-page l = record {
  can_next : (goal.iterator-loop-page).can_next l.page-iterator;
  ends : (goal.iterator-loop-page).is_finite l.page-iterator;
  indexed : IsIndexed l.self-inside.runs.entries l.page-iterator l.index;
  extents : AreExtents l.index l.extents.items;
}

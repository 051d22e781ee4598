use Rattle.std.proofs.Common.{List, sym, subst}
use Rattle.nv_radix.specs.declared.extent.Extent.{Extent}
use Rattle.nv_radix.specs.Extents.{AreExtents}
use Rattle.nv_map.specs.Marks.{Raises, SaysOne, SaysPage}
use Rattle.nv_map.proofs.Says.{raises_row}
use Rattle.nv_map.proofs.marks.Marks.mark_row.Goals as goal

pub returns : goal.returns
returns c =
    let row = c.args.row.now in
    let are = subst (λ (xs : List Extent). AreExtents row.index xs) (sym c.deref-2.ensures.value) c.in_ok-extents.ensures.extents in
    raises_row row _ are _ c.mark_log.new.self _ (subst (λ pages. Raises (SaysOne SaysPage pages) c.args.self.now c.mark_log.new.self) c.deref.ensures c.mark_log.ensures) c.mark_extents.ensures

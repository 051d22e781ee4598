use Rattle.std.proofs.Common.{[], refl, sym, subst, arith}
use Rattle.std.proofs.lemmas.Result.{on_ok_weaker}
use Rattle.nv_radix.specs.Extents.{AreExtents}
use Rattle.nv_radix.proofs.Rows.{raised-zero}
use Rattle.nv_radix.proofs.front.Front.add_pages.Goals as goal

pub returns : goal.returns
returns c = on_ok_weaker c.add_places.result (λ more none.
    let added = rw c.deref.ensures at more in
    rw (← c.self.view_is) (subst (λ m. AreExtents m c.add_places.new.extents.items) (sym (raised-zero _ 0 refl)) (added [] (omega arith) none))) c.add_places.ensures

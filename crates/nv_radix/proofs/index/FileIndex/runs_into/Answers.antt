use Rattle.std.proofs.Common.{[], sym, subst}
use Rattle.std.proofs.lemmas.Result.{on_ok_weaker}
use Rattle.nv_radix.specs.Extents.{AreExtents}
use Rattle.nv_radix.proofs.ExtentLemmas.{AreExtents-nil}
use Rattle.nv_radix.proofs.index.FileIndex.runs_into.Goals as goal

-- the extents of the front leaf, and then those of the whole
pub returns : goal.returns
returns c = on_ok_weaker c.add_pages-2.result (λ more.
    let none : AreExtents [] c.clear.new.self.items = subst (AreExtents []) (sym c.clear.ensures.items) AreExtents-nil in
    rw (← c.self.view_is) (more c.self.inside.front c.self.invariant.0 (c.in_ok-add_pages.ensures none))) c.add_pages-2.ensures

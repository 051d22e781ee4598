use Rattle.std.proofs.Common.{◌≡◌, sym, subst, false}
use Rattle.nv_rows.specs.RowList.{HasNumbersOf}
use Rattle.nv_region.specs.RegionState.{RegionState, fenced_or_last}
use Rattle.nv_region.specs.Stops.{NothingPending}
use Rattle.nv_calls.specs.Mount.{IsKept}
use Rattle.nv_calls.proofs.fs.«Fs+MemRegion».set_fuse.Goals as goal

pub invariant_of-self : goal.invariant_of-self
invariant_of-self c =
    subst (λ (m : RegionState). IsKept m.region c.self.inside.tables.layout.sup c.self.inside.tables.layout c.self.inside.rows.items c.self.inside.free c.self.inside.faults.items c.self.inside.read_only c.self.inside.stopped × HasNumbersOf c.self.inside.tables.layout c.self.inside.rows × (c.self.inside.stopped ≡ false → NothingPending m.region (fenced_or_last m)))
    (sym c.set_fuse.ensures) (c.self.invariant.0, c.self.invariant.1, c.self.invariant.2)

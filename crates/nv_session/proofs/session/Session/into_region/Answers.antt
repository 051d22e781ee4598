use Rattle.std.proofs.Common.{◌∙◌, Some, ap, sym}
use Rattle.nv_region.specs.Region.{Region}
use Rattle.nv_region.specs.RegionState.{RegionState}
use Rattle.nv_session.specs.Sessions.{memory_in, region_in}
use Rattle.nv_session.specs.declared.store.Store.{Store}
use Rattle.nv_session.proofs.session.Session.into_region.Goals as goal

pub returns-in-Some-clause-region : goal.returns-in-Some-clause-region
returns-in-Some-clause-region c =
    ap (λ (R : Region). Some R) (c.keep_all.ensures.region ∙ ap (λ (m : RegionState). m.region) c.into_memory.ensures) ∙ ap (λ (s : Store). Some (memory_in s).region) c.in-Some.store-is ∙ ap region_in (sym c.in-Some.is)

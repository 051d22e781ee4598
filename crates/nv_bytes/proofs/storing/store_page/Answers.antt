use Rattle.nv_region.proofs.Wordwise.{same_stores, stores_more}
use Rattle.nv_bytes.proofs.storing.store_page.Goals as goal

pub returns-clause-wrote : goal.returns-clause-wrote
returns-clause-wrote g c = stores_more _ _ _ _ _ _ _ _ (λ i x these. these) c.store_any_page-stored.ensures.wrote (same_stores _ _ _ _ _ c.forget_if_steady.ensures.same c.forget_if_steady.ensures.kept)

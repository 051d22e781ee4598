use Rattle.std.proofs.Common.{Some, refl, ap, sym}
use Rattle.nv_region.specs.Region.{Region}
use Rattle.nv_session.proofs.session.Session.with_region.Goals as goal

pub returns : goal.returns
returns c = record {
  region = ap (λ (R : Region). Some R) (sym c.keep_all.ensures.region);
  mounted = tt;
  time = refl;
  last = refl;
  armed = sym c.none.ensures;
  settled = c.keep_all.ensures.settled;
}

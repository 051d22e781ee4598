use Rattle.std.proofs.Common.{arith, refl}
use Rattle.nv_region.proofs.Fuses.{keeps_within}
use Rattle.nv_region.proofs.Wordwise.{stores_none, stores_within}
use Rattle.nv_logpage.proofs.appending.write_marker.Goals as goal

pub returns-then-place-lt-LINK-clause-kept : goal.returns-then-place-lt-LINK-clause-kept
returns-then-place-lt-LINK-clause-kept g c = record {
  wrote = stores_within _ _ _ _ _ _ (λ i x w. (omega arith, w.0, omega arith)) c.write_entry.ensures.wrote;
  len = c.write_entry.ensures.rest.len;
  keeps_fuse = keeps_within (λ limit past. omega arith) c.write_entry.ensures.keeps_fuse;
}

pub returns-else-place-lt-LINK-clause-kept : goal.returns-else-place-lt-LINK-clause-kept
returns-else-place-lt-LINK-clause-kept g c = record {
  wrote = stores_none _ _ _;
  len = refl;
  keeps_fuse = record { burnt = λ on. on; steady = λ on. on; stays_open = λ limit past on. on };
}

pub returns-else-place-lt-LINK-clause-marker : goal.returns-else-place-lt-LINK-clause-marker
returns-else-place-lt-LINK-clause-marker g c less = absurd (omega arith)

use Rattle.std.proofs.Common.{arith, inl, inr, ◌∙◌}
use Rattle.nv_region.proofs.Fuses.{keeps_more, keeps_within}
use Rattle.nv_region.proofs.Wordwise.{stores_more, stores_within}
use Rattle.nv_logpage.proofs.appending.write_turned.Goals as goal

pub returns-in_err-write_marker-clause-kept : goal.returns-in_err-write_marker-clause-kept
returns-in_err-write_marker-clause-kept g c = record {
  wrote = stores_within _ _ _ _ _ _ (λ i x w. inl w) c.write_marker.ensures.kept.wrote;
  len = c.write_marker.ensures.kept.len;
  keeps_fuse = keeps_within (λ limit past. past.0) c.write_marker.ensures.kept.keeps_fuse;
}

pub returns-clause-kept : goal.returns-clause-kept
returns-clause-kept g c = record {
  wrote = stores_more _ _ _ _ _ _ _ _ (λ i x w. inr (omega arith, omega arith)) (stores_within _ _ _ _ _ _ (λ i x w. inl w) c.write_marker.ensures.kept.wrote)
      c.write_entry.ensures.wrote;
  len = c.write_entry.ensures.rest.len ∙ c.write_marker.ensures.kept.len;
  keeps_fuse = keeps_more (λ limit past. omega arith) (keeps_within (λ limit past. past.0) c.write_marker.ensures.kept.keeps_fuse) c.write_entry.ensures.keeps_fuse;
}

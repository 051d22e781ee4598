use Rattle.std.proofs.Common.{◌≡◌, length, take}
use Rattle.nv_cross_check.specs.Listings.{targets}
use Rattle.nv_cross_check.specs.Steps.{AreCounts, unused_faults}
use Rattle.nv_cross_check.proofs.counts.count_names.Given as goal

abbrev pub invariant-loop-place : goal.invariant-loop-place
invariant-loop-place l = record {
  counts : AreCounts (length l.listings) l.places (targets (take l.place l.listings)) l.counts.items;
  unused : l.unused.items ≡ unused_faults l.places (take l.place l.listings);
}

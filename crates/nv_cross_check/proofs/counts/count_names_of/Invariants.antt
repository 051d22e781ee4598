use Rattle.std.proofs.Common.{◌≡◌, ◌++◌, length, get_or, take, map}
use Rattle.std.specs.List.{filter_map}
use Rattle.nv_cross_check.specs.Listings.{inodes_of, target}
use Rattle.nv_cross_check.specs.Steps.{CountsMore, unused_fault}
use Rattle.nv_cross_check.proofs.counts.count_names_of.Given as goal

abbrev pub invariant-loop-name : goal.invariant-loop-name
invariant-loop-name l = record {
  long : length l.counts.items ≡ length l.initial.counts.items;
  counts : CountsMore l.places (map target (take l.name-index l.name-items)) l.initial.counts.items l.counts.items;
  unused : l.unused.items ≡ l.initial.unused.items ++ filter_map (unused_fault l.places (get_or (inodes_of l.listings) l.place 0)) (take l.name-index l.name-items);
}

use Rattle.std.proofs.Common.{◌≡◌, map, take}
use Rattle.nv_cross_check.specs.NameLists.{AreNamed, HasEmpty, is_list}
use Rattle.nv_cross_check.proofs.listing.push_all.Given as goal

abbrev pub invariant-loop-place : goal.invariant-loop-place
invariant-loop-place l = record {
  lists : AreNamed (take l.place l.rows.items) l.places.items l.lists.items;
  empty : HasEmpty l.lists.items;
  named : l.named.items ≡ map is_list l.places.items;
}

use Rattle.std.proofs.Common.{◌≡◌, ◌++◌, length, map, take, drop}
use Rattle.nv_host.specs.Links.{Keeps, links_behind, links_said, path_of}
use Rattle.nv_host.proofs.links.links_of.Given as goal

abbrev pub invariant-loop-entry : goal.invariant-loop-entry
invariant-loop-entry l = record {
  keeps : Keeps (take l.entry-index l.entries) l.firsts;
  count : length l.links.items ≡ l.entry-index;
  links : map path_of l.links.items ++ links_behind (take l.entry-index l.entries) (drop l.entry-index l.entries) ≡ links_said l.entries;
}

use Rattle.std.proofs.Common.{◌≡◌, ◌++◌, take, map, flat_map}
use Rattle.nv_members.specs.Members.{name_and_inode}
use Rattle.nv_folders.specs.Folders.{spot_of, spots_of}
use Rattle.nv_folders.proofs.below.push_each.Given as goal

-- what the names so far lead to
abbrev pub invariant-loop-named : goal.invariant-loop-named
invariant-loop-named g l = map spot_of l.below.items ≡ map spot_of l.fn.below.items ++ flat_map (spots_of (g.S.Inodes.tree l.source) l.above) (map name_and_inode (take l.named-index l.listed))

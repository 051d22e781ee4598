use Rattle.std.proofs.Common.{◌≡◌, ◌++◌, length, string_bytes}
use Rattle.nv_inspect.specs.Log.{links_of}
use Rattle.nv_inspect.proofs.links.push_links.Given as goal

-- the links of the pages that are left are still to come
abbrev pub invariant-loop-left : goal.invariant-loop-left
invariant-loop-left l = string_bytes l.out ++ links_of l.left ≡ string_bytes l.initial.out ++ links_of l.initial.left

abbrev pub decreases-loop-left : goal.decreases-loop-left
decreases-loop-left l = length l.left

use Rattle.std.proofs.Common.{◌≡◌, ◌++◌, length, string_bytes}
use Rattle.nv_inspect.specs.Log.{links_to, pages_from}
use Rattle.nv_inspect.proofs.links.push_links_to.Given as goal

-- the links of the pages that are left are still to come, and the page is the same among them
abbrev pub invariant-loop-left : goal.invariant-loop-left
invariant-loop-left l = (string_bytes l.out ++ links_to l.page l.left ≡ string_bytes l.initial.out ++ links_to l.page l.initial.left)
    × (pages_from l.page l.left ≡ pages_from l.page l.initial.left)

abbrev pub decreases-loop-left : goal.decreases-loop-left
decreases-loop-left l = length l.left

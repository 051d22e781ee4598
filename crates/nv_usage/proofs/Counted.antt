-- The members of an archive of all below an inode are inodes in use.
use Rattle.std.proofs.Common.{◌≡◌, ℕ, List, [], Some, false, subst}
use Rattle.std.specs.Prelude.{slice_get}
use Rattle.nv_region.specs.Region.{region_of}
use Rattle.nv_scan.specs.declared.piece.Row.{Row}
use Rattle.nv_members.specs.Members.{AreMembers}
use Rattle.nv_members.specs.declared.member.Member.{Member}
use Rattle.nv_archive.proofs.Shows.{used_by_node}
use Rattle.nv_usage.specs.Named.{names_tree}
use Rattle.nv_usage.specs.Usage.{AreUsed}

pub all_used : (rows : List Row) (i : ℕ) (members given : List Member) → given ≡ members → AreMembers (names_tree rows) i false members → AreUsed rows given
all_used rows i members given same are k m at =
    let is = are.each k m (subst (λ (ms : List Member). slice_get ms k ≡ Some m) same at) in
    used_by_node (region_of []) rows m.inode is.node is.shows

use Rattle.std.proofs.Common.{◌≤◌, ◌-◌}
use Rattle.std.specs.Io.KnownBytes.{Appends}
use Rattle.nv_paths.specs.Seen.{tree_of}
use Rattle.nv_looks.specs.LookingByNumber.{IsInodeSized}
use Rattle.nv_tar.proofs.FileFronts.{first_bytes}
use Rattle.nv_looks.proofs.looking_by_number.write_inode.Given as goal

abbrev pub invariant-loop-at : goal.invariant-loop-at
invariant-loop-at g l = (l.at ≤ l.size)
    × ((s : IsInodeSized (tree_of (g.P.Pmem.region l.mount.memory) l.mount.rows) l.inode l.size)
    → Appends (g.W.Write.contents l.initial.writer) (g.W.Write.contents l.writer) (first_bytes s.0 l.at))

abbrev pub decreases-loop-at : goal.decreases-loop-at
decreases-loop-at g l = l.size - l.at

use Rattle.std.proofs.Common.{◌≤◌, ◌-◌, ℕ, List}
use Rattle.std.specs.Io.KnownBytes.{Appends}
use Rattle.nv_tree.specs.Path.{IsPath}
use Rattle.nv_paths.specs.Seen.{tree_of}
use Rattle.nv_looks.specs.Looking.{IsSized}
use Rattle.nv_tar.proofs.FileFronts.{first_bytes}
use Rattle.nv_looks.proofs.looking.write_file.Given as goal

abbrev pub invariant-loop-at : goal.invariant-loop-at
invariant-loop-at g l = (l.at ≤ l.size) × ((names : List (List ℕ)) → IsPath l.path names → (s : IsSized (tree_of (g.P.Pmem.region l.mount.memory) l.mount.rows) names l.size)
    → Appends (g.W.Write.contents l.initial.writer) (g.W.Write.contents l.writer) (first_bytes s.node l.at))

abbrev pub decreases-loop-at : goal.decreases-loop-at
decreases-loop-at g l = l.size - l.at

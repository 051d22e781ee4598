use Rattle.std.proofs.Common.{◌≡◌, ◌≤◌, ◌<◌, ◌%◌, ◌-◌, ℕ, List, Some}
use Rattle.std.specs.Io.KnownBytes.{Appends}
use Rattle.nv_region.specs.Region.{region_of}
use Rattle.nv_tree.specs.Tree.{Tree}
use Rattle.nv_looks.specs.Catting.{IsFileOf}
use Rattle.nv_tar.proofs.FileFronts.{first_bytes}
use Rattle.nv_looks.proofs.catting.write_row.Given as goal

abbrev pub decreases-loop-at : goal.decreases-loop-at
decreases-loop-at g l = l.size - l.at

abbrev pub invariant-loop-at : goal.invariant-loop-at
invariant-loop-at g l = record {
  within : l.at ≤ l.size;
  page : l.at < l.size → l.at % 4096 ≡ 0;
  so_far : (image : List ℕ) → g.B.Blocks.bytes l.source ≡ Some image → (t : Tree) (names : List (List ℕ)) (file : IsFileOf (region_of image) l.row t names)
      → Appends (g.W.Write.contents l.initial.writer) (g.W.Write.contents l.writer) (first_bytes file.node l.at);
}

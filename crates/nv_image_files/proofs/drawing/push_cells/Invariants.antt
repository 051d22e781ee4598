use Rattle.std.proofs.Common.{◌≡◌, ◌++◌, drop, string_bytes}
use Rattle.nv_image_files.specs.Drawing.{cell_lines}
use Rattle.nv_image_files.proofs.drawing.push_cells.Given as goal

abbrev pub invariant-loop-place : goal.invariant-loop-place
invariant-loop-place l = string_bytes l.out ++ cell_lines l.place (drop l.place l.shares) ≡ string_bytes l.initial.out ++ cell_lines 0 l.shares

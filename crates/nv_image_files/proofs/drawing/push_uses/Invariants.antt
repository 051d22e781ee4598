use Rattle.std.proofs.Common.{◌≡◌, ◌++◌, drop, string_bytes}
use Rattle.nv_image_files.specs.Drawing.{use_lines}
use Rattle.nv_image_files.proofs.drawing.push_uses.Given as goal

abbrev pub invariant-loop-place : goal.invariant-loop-place
invariant-loop-place l = string_bytes l.out ++ use_lines l.y l.place (drop l.place l.uses) ≡ string_bytes l.initial.out ++ use_lines l.y 0 l.uses

use Rattle.std.proofs.Common.{◌≡◌, ◌++◌, take, string_bytes}
use Rattle.nv_image_files.specs.Drawing.{parts_text}
use Rattle.nv_image_files.proofs.drawing.push_parts.Given as goal

abbrev pub invariant-loop-kind : goal.invariant-loop-kind
invariant-loop-kind l = string_bytes l.out ≡ string_bytes l.initial.out ++ parts_text l.share (take l.kind-index l.kinds)

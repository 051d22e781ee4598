use Rattle.std.proofs.Common.{◌≡◌, take, string_bytes}
use Rattle.std.specs.List.{flat_map}
use Rattle.nv_image_check.specs.Several.{named_line}
use Rattle.nv_image_check.proofs.several.named_lines.Given as goal

abbrev pub invariant-loop-line : goal.invariant-loop-line
invariant-loop-line l = string_bytes l.named ≡ flat_map (λ line. named_line l.name line.now) (take l.line-index l.line-items)

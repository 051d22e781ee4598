use Rattle.std.proofs.Common.{◌≡◌, ◌++◌, take, string_bytes}
use Rattle.nv_report.specs.Texts.{extents_text}
use Rattle.nv_report.proofs.rows.push_extents.Given as goal

abbrev pub invariant-loop-extent : goal.invariant-loop-extent
invariant-loop-extent l = string_bytes l.out ≡ string_bytes l.fn.out ++ extents_text (take l.extent-index l.extents)

use Rattle.std.proofs.Common.{◌≡◌, ◌++◌, take, string_bytes}
use Rattle.std.specs.List.{flat_map}
use Rattle.nv_records.specs.Text.{record_line}
use Rattle.nv_records.proofs.text.push_lines.Given as goal

abbrev pub invariant-loop-told : goal.invariant-loop-told
invariant-loop-told l = string_bytes l.text ≡ string_bytes l.fn.text ++ flat_map record_line (take l.told-index l.records)

use Rattle.std.proofs.Common.{◌≡◌, ◌++◌, take, map, string_bytes}
use Rattle.nv_names.specs.Names.{line_of}
use Rattle.nv_report.specs.Texts.{names_text}
use Rattle.nv_report.proofs.rows.push_names.Given as goal

abbrev pub invariant-loop-named : goal.invariant-loop-named
invariant-loop-named l = string_bytes l.out ≡ string_bytes l.fn.out ++ names_text (map line_of (take l.named-index l.listed))

use Rattle.std.proofs.Common.{map, take, string_bytes}
use Rattle.nv_report.specs.Texts.{IsTreeText, AddsText}
use Rattle.nv_report.proofs.threaded.with_rows.Given as goal

abbrev pub invariant-loop-row : goal.invariant-loop-row
invariant-loop-row l = AddsText (IsTreeText (map (λ row. row.now) (take l.row-index l.rows))) (string_bytes l.fn.text) (string_bytes l.all)

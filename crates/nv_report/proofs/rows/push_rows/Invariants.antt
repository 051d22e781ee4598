use Rattle.std.proofs.Common.{◌≡◌, ◌++◌, List, map, string_bytes}
use Rattle.nv_scan.specs.declared.piece.Row.{Row}
use Rattle.nv_report.specs.Texts.{IsTreeText, AddsText}
use Rattle.nv_report.proofs.rows.push_rows.Given as goal

-- the texts of some rows were added, and the others are left
abbrev pub invariant-loop-row : goal.invariant-loop-row
invariant-loop-row l = (done : List Row) × (done ++ map (λ entry. entry.1) l.row-iterator ≡ l.rows.items) × AddsText (IsTreeText done) (string_bytes l.fn.out) (string_bytes l.out)

use Rattle.std.proofs.Common.{◌≡◌, ◌++◌, List, map, string_bytes}
use Rattle.nv_scan.specs.declared.piece.Row.{Row}
use Rattle.nv_report.specs.Texts.{AddsText}
use Rattle.nv_logs.specs.All.{AreLogTexts}
use Rattle.nv_logs.proofs.all.push_logs.Given as goal

-- the logs of some rows were added, and the others are left
abbrev pub invariant-loop-row : goal.invariant-loop-row
invariant-loop-row g l = (done : List Row) × (done ++ map (λ entry. entry.1) l.row-iterator ≡ l.rows.items)
    × AddsText (AreLogTexts (g.P.Pmem.region l.memory) l.tables.layout done) (string_bytes l.fn.out) (string_bytes l.out)

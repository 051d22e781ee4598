use Rattle.std.proofs.Common.{◌≡◌, ◌++◌, map}
use Rattle.nv_report.proofs.threaded.listed.Given as goal

-- some rows are listed, and the others are left
abbrev pub invariant-loop-row : goal.invariant-loop-row
invariant-loop-row l = map (λ row. row.now) l.list.items ++ map (λ entry. entry.1) l.row-iterator ≡ l.rows.items

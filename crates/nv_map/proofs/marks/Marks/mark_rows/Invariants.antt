use Rattle.std.proofs.Common.{◌≡◌, ◌++◌, List, map}
use Rattle.nv_scan.specs.declared.piece.Row.{Row}
use Rattle.nv_map.specs.Map.{IsUsedBy}
use Rattle.nv_map.specs.Marks.{Raises, SaysOne}
use Rattle.nv_map.proofs.marks.Marks.mark_rows.Given as goal

-- some rows are told, and the others are left
abbrev pub invariant-loop-row : goal.invariant-loop-row
invariant-loop-row l = (done : List Row) × (done ++ map (λ entry. entry.1) l.row-iterator ≡ l.rows.items) × Raises (SaysOne IsUsedBy done) l.fn.self l.self

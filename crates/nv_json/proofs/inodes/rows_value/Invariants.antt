use Rattle.std.proofs.Common.{◌≡◌, ◌++◌, List, map}
use Rattle.nv_scan.specs.declared.piece.Row.{Row}
use Rattle.serde_json.specs.View.{view}
use Rattle.nv_json.specs.Json.{AreRows}
use Rattle.nv_json.proofs.inodes.rows_value.Given as goal

-- some rows were put in, and the others are left
abbrev pub invariant-loop-row : goal.invariant-loop-row
invariant-loop-row l = (done : List Row) × (done ++ map (λ entry. entry.1) l.row-iterator ≡ l.rows.items) × AreRows done (map view l.items.items)

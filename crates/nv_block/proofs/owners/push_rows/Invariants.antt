use Rattle.std.proofs.Common.{◌≡◌, ◌++◌, List, map}
use Rattle.nv_scan.specs.declared.piece.Row.{Row}
use Rattle.nv_block.specs.Owned.{AddsOwnersOf}
use Rattle.nv_block.proofs.owners.push_rows.Given as goal

-- the owners by some rows were added, and the others are left
abbrev pub invariant-loop-row : goal.invariant-loop-row
invariant-loop-row l = (done : List Row) × (done ++ map (λ entry. entry.1) l.row-iterator ≡ l.rows.items) × AddsOwnersOf done l.block l.fn.owners.items l.owners.items

use Rattle.std.proofs.Common.{◌≡◌, ◌≤◌, ◌+◌, ◌*◌, ◌^◌, ◌++◌, List, map, length}
use Rattle.nv_scan.specs.declared.piece.Row.{Row}
use Rattle.nv_report.specs.Summary.{directories, files, names}
use Rattle.nv_report.proofs.summary.counts_of.Given as goal

-- some rows were counted, and the others are left
abbrev pub invariant-loop-row : goal.invariant-loop-row
invariant-loop-row l = (done : List Row) × (done ++ map (λ entry. entry.1) l.row-iterator ≡ l.rows.items) × (l.counts.inodes ≡ length l.rows.items)
    × (l.counts.directories ≡ directories done) × (l.counts.files ≡ files done) × (l.counts.names ≡ names done)
    × (l.counts.directories + l.counts.files ≡ length done) × (l.counts.names ≤ length done * 2 ^ 64)

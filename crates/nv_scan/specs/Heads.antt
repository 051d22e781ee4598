-- What is read of a row again once all rows are there.
use Rattle.std.specs.Prelude.{nat_lt, List, length, map}
use Rattle.nv_scan.specs.declared.piece.Row.{Row}
use Rattle.nv_scan.specs.declared.row_list.RowHead.{RowHead}

-- a row's inode, links and kind, and whether it has names
abbrev pub head_of : Row → RowHead
head_of row = record { inode = row.inode; links = row.numbers.links; kind = row.kind; has_names = nat_lt 0 (length row.names.names) }

-- the heads of rows
abbrev pub heads_of : List Row → List RowHead
heads_of rows = map head_of rows

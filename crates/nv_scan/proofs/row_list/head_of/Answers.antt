use Rattle.std.proofs.Common.{Bool, ap}
use Rattle.nv_scan.specs.declared.row_list.RowHead.{RowHead}
use Rattle.nv_scan.proofs.RowHeads.{has_names-is}
use Rattle.nv_scan.proofs.row_list.head_of.Goals as goal

pub returns : goal.returns
returns c =
    let row = c.args.row.now in
    ap {B = RowHead} (λ (has : Bool). record { inode = row.inode; links = row.numbers.links; kind = row.kind; has_names = has }) (has_names-is row.names c.is_empty.result c.is_empty.ensures)

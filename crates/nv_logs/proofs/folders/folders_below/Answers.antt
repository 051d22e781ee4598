use Rattle.std.proofs.lemmas.Result.{IfOk-weaker}
use Rattle.nv_logs.proofs.Tops.{below_of, is_folder}
use Rattle.nv_logs.proofs.folders.folders_below.Goals as goal

pub folders_of-requires : goal.folders_of-requires
folders_of-requires c = is_folder c.args.rows.now c.named_rows-named.result.rows.now c.named_rows-named.ensures c.args.row.now c.requires.among c.requires.directory

pub returns : goal.returns
returns c = IfOk-weaker c.folders_of.result _ _
    (λ folders are. below_of c.args.rows.now c.named_rows-named.result.rows.now c.named_rows-named.ensures c.args.row.now.inode c.args.inode.now c.in_ok-path.path.items c.in_ok-path.ensures _ are)
    c.folders_of.ensures

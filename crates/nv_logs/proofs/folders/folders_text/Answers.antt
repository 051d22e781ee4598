use Rattle.std.proofs.Common.{string_bytes}
use Rattle.nv_logs.proofs.Tops.{text_of}
use Rattle.nv_logs.proofs.folders.folders_text.Goals as goal

pub returns : goal.returns
returns c = text_of c.args.long c.args.rows.now.items c.in_ok-folders.folders.items c.deref.result.now c.deref.ensures.value c.args.row.now.inode c.args.inode.now c.in_ok-folders.ensures (string_bytes c.new-text.result) _
    c.new-text.ensures.bytes c.in_ok-push_folders.ensures

use Rattle.std.proofs.Common.{inr, refl}
use Rattle.nv_paths.specs.Seen.{tree_of}
use Rattle.nv_untar.specs.Items.{item_of}
use Rattle.nv_unpack.specs.Calls.{MakesDirectory}
use Rattle.nv_unpack.proofs.Pushed.{adds_one, off_never}
use Rattle.nv_unpack.proofs.calls.push_directory.Goals as goal

pub returns-in_ok-push : goal.returns-in_ok-push
returns-in_ok-push c =
    let t = tree_of c.args.mount.now.memory.region c.args.mount.now.rows in
    adds_one (MakesDirectory t c.args.cpu c.args.text.now (item_of c.args.item)) c.args.calls.now.items c.push.new.self.items _ c.in_ok-push.ensures.items
    (inr ((λ there. off_never c.is_directory.result c.if-not-is_directory.true (c.is_directory.ensures.1 there)), refl))

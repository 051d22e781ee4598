use Rattle.std.proofs.Common.{[], ◌∷◌, ap}
use Rattle.nv_paths.specs.Seen.{tree_of}
use Rattle.nv_untar.specs.Items.{item_of}
use Rattle.nv_history.specs.Said.{Said, Write, said}
use Rattle.nv_unpack.specs.Calls.{MakesFile}
use Rattle.nv_unpack.proofs.Pushed.{adds_three}
use Rattle.nv_unpack.proofs.calls.push_file.Goals as goal

pub returns : goal.returns
returns c =
    let t = tree_of c.args.mount.now.memory.region c.args.mount.now.rows in
    let item = c.args.item in
    adds_three (MakesFile t c.args.cpu c.args.text.now (item_of item)) c.args.calls.now.items c.push.new.self.items c.push-2.new.self.items c.push-3.new.self.items _ _ _
    c.in_ok-push.ensures.items c.in_ok-push-2.ensures.items c.in_ok-push-3.ensures.items (
      said c.begin_file.result,
      c.begin_file.ensures,
      ap (λ (last : Said). said c.begin_file.result ∷ Write c.args.cpu c.args.text.now 0 item.bytes.now item.time ∷ last ∷ []) c.set_attributes.ensures,
    )

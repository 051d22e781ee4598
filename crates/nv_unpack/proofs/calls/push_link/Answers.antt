use Rattle.std.proofs.Common.{◌∙◌, inl, inr, refl}
use Rattle.nv_paths.specs.Seen.{tree_of}
use Rattle.nv_untar.specs.Items.{item_of}
use Rattle.nv_unpack.specs.Calls.{MakesLink}
use Rattle.nv_unpack.proofs.Pushed.{adds_behind, adds_two, off_never}
use Rattle.nv_unpack.proofs.calls.push_link.Goals.{then-is_there+in_ok-push, else-is_there}
use Rattle.nv_unpack.proofs.calls.push_link.Goals as goal

pub returns : goal.returns
returns c =
    let t = tree_of c.args.mount.now.memory.region c.args.mount.now.rows in
    let IsLink = MakesLink t c.args.cpu c.args.text.now c.args.old.now (item_of c.args.item) in
    elim c.if-is_there.branch [
      | then-is_there+in_ok-push w ↦ adds_two IsLink c.args.calls.now.items c.if-is_there.calls.items c.push-2.new.self.items _ _ ((λ i. (w.calls-is i).items) ∙ w.in_ok-push.ensures.items) c.in_ok-push-2.ensures.items
          (inl (c.is_there.ensures.0 w.if-is_there.true, refl))
      | else-is_there w ↦ adds_behind IsLink c.args.calls.now.items c.if-is_there.calls.items c.push-2.new.self.items _ (λ i. (w.calls-is i).items) c.in_ok-push-2.ensures.items
          (inr ((λ there. off_never c.is_there.result w.if-is_there.false (c.is_there.ensures.1 there)), refl))
    ]

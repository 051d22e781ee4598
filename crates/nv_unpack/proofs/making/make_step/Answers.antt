use Rattle.std.proofs.Common.{◌∙◌, ap}
use Rattle.nv_untar.specs.declared.item.Item.{Item}
use Rattle.nv_untar.specs.Items.{item_of}
use Rattle.nv_unpack.specs.Places.{place}
use Rattle.nv_unpack.proofs.Stepping.{way_halted}
use Rattle.nv_unpack.proofs.making.make_step.Goals as goal

pub returns-in-Err-clause-refused : goal.returns-in-Err-clause-refused
returns-in-Err-clause-refused c =
    way_halted c.args.base.now c.args.maker c.args.step c.deref.result.now c.in_ok-old.old.items
    (c.deref.ensures.value ∙ c.in_ok-text.ensures ∙ ap (λ (i : Item). place c.args.base.now (item_of i).path) c.item-item.ensures)
    (c.in_ok-old.ensures ∙ ap (λ (i : Item). place c.args.base.now (item_of i).link) c.item-item.ensures)
    c.args.mount.now c.make_way_of.new.mount c.in-Err.refusal c.in-Err.ensures.refused c.item-item.result c.item-item.ensures c.of.result c.of.ensures

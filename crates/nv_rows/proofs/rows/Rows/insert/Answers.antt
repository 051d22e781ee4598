use Rattle.std.proofs.Common.{ℕ, length, sym, ap, ◌∙◌, subst}
use Rattle.nv_rows.specs.Unused.{IsTableNumber}
use Rattle.nv_rows.proofs.SlotRows.{row_at_slot, slot_filled, stand-filled}
use Rattle.nv_rows.proofs.UsedRows.{TellsUsed-filled}
use Rattle.nv_rows.proofs.rows.Rows.insert.Goals as goal

pub insert-requires : goal.insert-requires
insert-requires c =
    subst (λ (cpus : ℕ). IsTableNumber cpus c.self.inside.used.sizes c.args.row.inode) (sym c.self.invariant.cpus) (rw (← c.self.view_is) at c.requires.within)

pub insert-requires-2-clause-vacant : goal.insert-requires-2-clause-vacant
insert-requires-2-clause-vacant c =
    sym (row_at_slot c.self.inside.rows.slots c.args.row.inode c.self.invariant.stand) ∙ rw (← c.self.view_is) at c.requires.vacant

pub insert-requires-2-clause-within : goal.insert-requires-2-clause-within
insert-requires-2-clause-within c = c.self.invariant.tells.reach c.args.row.inode (rw (← c.self.view_is) at c.requires.within)

pub invariant_of-self : goal.invariant_of-self
invariant_of-self c =
    let t = c.self.inside in
    let row = c.args.row in
    let number = rw (← c.self.view_is) at c.requires.within in
    rw (c.insert-2.ensures.values)
    (record {
      layout = c.self.invariant.layout;
      cpus = ap length c.insert.ensures.sizes ∙ c.self.invariant.cpus;
      stand = stand-filled t.rows.slots row (c.self.invariant.tells.reach row.inode number) c.self.invariant.stand;
      tells = rw (c.insert.ensures.sizes) (TellsUsed-filled t.sup.cpus t.used.sizes t.rows.slots t.used.sets row.inode c.self.invariant.tells c.insert.new.self.sets number c.insert.ensures.others row c.insert.ensures.there);
    })

pub returns-clause-rows : goal.returns-clause-rows
returns-clause-rows c =
    let slots = c.self.inside.rows.slots in
    let number = rw (← c.self.view_is) at c.requires.within in
    let vacant = sym (row_at_slot slots c.args.row.inode c.self.invariant.stand) ∙ rw (← c.self.view_is) at c.requires.vacant in
    rw (← c.self.view_is, c.insert-2.ensures.values)
    (slot_filled slots c.args.row (c.self.invariant.tells.reach c.args.row.inode number) vacant c.self.invariant.stand)

use Rattle.std.proofs.Common.{◌≡◌, length-set, Some, None, get_or, set, is_some, sym, subst, ◌∙◌, ap, zero-add}
use Rattle.nv_scan.specs.declared.piece.Row.{Row}
use Rattle.nv_rows.specs.Rows.{place_in, row_of}
use Rattle.nv_rows.specs.Slots.{rows_in}
use Rattle.nv_rows.proofs.SlotRows.{row_at_slot, slot_exchanged, slot_within, stand-set}
use Rattle.nv_rows.proofs.UsedRows.{TellsUsed-exchanged}
use Rattle.nv_rows.proofs.MoreRoom.{space_same}
use Rattle.nv_rows.proofs.rows.Rows.exchange.Goals as goal

pub unreachable-requires : goal.unreachable-requires
unreachable-requires c =
    let used = rw (← c.self.view_is) at c.requires in
    let none : row_of (rows_in c.self.inside.rows.slots) c.args.row.now.inode ≡ None = row_at_slot c.self.inside.rows.slots c.args.row.now.inode c.self.invariant.stand ∙ sym c.in-None.ensures.value in
    let not_there = ap is_some none in
    absurd (cc)

pub invariant_of-self : goal.invariant_of-self
invariant_of-self c =
    let slots = c.self.inside.rows.slots in
    let n = c.args.row.now.inode in
    let at : get_or slots n None ≡ Some c.in-Some.held.now = sym c.in-Some.ensures.value in
    let inside = slot_within slots n (ap is_some at) in
    rw c.swap.ensures.x_after
    (record {
      layout = c.self.invariant.layout;
      cpus = c.self.invariant.cpus;
      stand = stand-set 0 slots n (Some c.args.row.now) inside (λ row is. (let same : c.args.row.now ≡ row = cc in ap (λ (r : Row). r.inode) (sym same) ∙ sym (zero-add n))) c.self.invariant.stand;
      tells = TellsUsed-exchanged c.self.inside.sup.cpus c.self.inside.used.sizes slots c.self.inside.used.sets n c.self.invariant.tells c.in-Some.held.now c.args.row.now at inside;
    })

pub returns-clause-row : goal.returns-clause-row
returns-clause-row c =
    rw (← c.self.view_is) (row_at_slot c.self.inside.rows.slots c.args.row.now.inode c.self.invariant.stand ∙ sym c.in-Some.ensures.value ∙ ap (λ (r : Row). Some r) (sym c.swap.ensures.y_after))

pub returns-clause-rows : goal.returns-clause-rows
returns-clause-rows c =
    let slots = c.self.inside.rows.slots in
    let n = c.args.row.now.inode in
    rw (← c.self.view_is, c.swap.ensures.x_after)
    (subst (λ k. rows_in (set slots n (Some c.args.row.now)) ≡ set (rows_in slots) (place_in (rows_in slots) k) c.args.row.now) (zero-add n) (slot_exchanged 0 slots n c.in-Some.held.now c.args.row.now c.self.invariant.stand (sym c.in-Some.ensures.value)))

pub returns-clause-space : goal.returns-clause-space
returns-clause-space c =
    let slots = c.self.inside.rows.slots in
    let n = c.args.row.now.inode in
    rw (← c.self.view_is, c.swap.ensures.x_after) (space_same slots (set slots n (Some c.args.row.now)) c.self.inside.used.sets c.self.inside.sup.cpus (length-set slots n (Some c.args.row.now)))

use Rattle.std.proofs.Common.{◌≡◌, ◌+◌, ◌≤◌, OnSome, ℕ, List, Option, length, is_some, sym, subst, ◌∙◌, ap, zero-add}
use Rattle.nv_numbered.proofs.SlotLemmas.{set_none}
use Rattle.nv_scan.specs.declared.piece.Row.{Row}
use Rattle.nv_rows.specs.InUse.{AreRows}
use Rattle.nv_rows.specs.RowList.{RowList}
use Rattle.nv_rows.specs.Slots.{rows_in}
use Rattle.nv_rows.proofs.SlotRows.{row_at_slot, slot_emptied, stand-emptied, number_out, row_gone}
use Rattle.nv_rows.specs.Unused.{IsTableNumber}
use Rattle.nv_rows.proofs.UsedRows.{TellsUsed-emptied}
use Rattle.nv_rows.proofs.Early.{none_there}
use Rattle.nv_rows.proofs.rows.Rows.remove.Goals as goal

pub invariant_of-self : goal.invariant_of-self
invariant_of-self c =
    let t = c.self.inside in
    let n = c.args.inode in
    let number = c.self.invariant.tells.within n (ap is_some (sym c.remove-row.ensures.value) ∙ sym c.if-is_some.ensures) in
    rw (c.remove-row.ensures.values)
    (record {
      layout = c.self.invariant.layout;
      cpus = ap length c.remove.ensures.sizes ∙ c.self.invariant.cpus;
      stand = stand-emptied 0 t.rows.slots n c.self.invariant.stand;
      tells = rw (c.remove.ensures.sizes) (TellsUsed-emptied t.sup.cpus t.used.sizes t.rows.slots t.used.sets n c.self.invariant.tells c.remove.new.self.sets number c.remove.ensures.others c.remove.ensures.gone);
    })

pub returns-then-is_some-clause-row : goal.returns-then-is_some-clause-row
returns-then-is_some-clause-row c = rw (← c.self.view_is) (c.remove-row.ensures.value ∙ sym (row_at_slot c.self.inside.rows.slots c.args.inode c.self.invariant.stand))

pub returns-then-is_some-clause-rows : goal.returns-then-is_some-clause-rows
returns-then-is_some-clause-rows c place at =
    let slots = c.self.inside.rows.slots in
    let there = rw (← c.self.view_is) at at in
    rw (← c.self.view_is, c.remove-row.ensures.values)
    (slot_emptied 0 slots c.args.inode place there.0 c.self.invariant.stand there.1 (there.2 ∙ sym (zero-add c.args.inode)))

pub returns-then-is_some-clause-unchanged : goal.returns-then-is_some-clause-unchanged
returns-then-is_some-clause-unchanged c none =
    let slots = c.self.inside.rows.slots in
    let vacant = sym (row_at_slot slots c.args.inode c.self.invariant.stand) ∙ rw (← c.self.view_is) at none in
    rw (← c.self.view_is, c.remove-row.ensures.values) (ap rows_in (sym (set_none slots c.args.inode vacant)))

pub returns-else-is_some-clause-row : goal.returns-else-is_some-clause-row
returns-else-is_some-clause-row c = rw (← c.self.view_is) (c.remove-row.ensures.value ∙ sym (row_at_slot c.self.inside.rows.slots c.args.inode c.self.invariant.stand))

pub returns-else-is_some-clause-rows : goal.returns-else-is_some-clause-rows
returns-else-is_some-clause-rows c place at =
    let slots = c.self.inside.rows.slots in
    let there = rw (← c.self.view_is) at at in
    rw (← c.self.view_is, c.remove-row.ensures.values)
    (slot_emptied 0 slots c.args.inode place there.0 c.self.invariant.stand there.1 (there.2 ∙ sym (zero-add c.args.inode)))

pub returns-then-is_some-clause-number : goal.returns-then-is_some-clause-number
returns-then-is_some-clause-number c =
    let t = c.self.inside in
    rw (c.remove.ensures.sizes)
    (number_out t.rows.slots c.args.inode (IsTableNumber t.sup.cpus t.used.sizes) c.remove-row.result c.remove-row.ensures.value c.self.invariant.stand c.self.invariant.tells.within)

pub returns-then-is_some-clause-gone : goal.returns-then-is_some-clause-gone
returns-then-is_some-clause-gone c =
    rw c.remove-row.ensures.values (row_gone c.self.inside.rows.slots c.args.inode c.self.invariant.stand)

pub returns-else-is_some-clause-gone : goal.returns-else-is_some-clause-gone
returns-else-is_some-clause-gone c =
    rw c.remove-row.ensures.values (row_gone c.self.inside.rows.slots c.args.inode c.self.invariant.stand)

pub remove-requires : goal.remove-requires
remove-requires c =
    let t = c.self.inside in
    subst (λ (cpus : ℕ). IsTableNumber cpus t.used.sizes c.args.inode) (sym c.self.invariant.cpus) (c.self.invariant.tells.within c.args.inode (ap is_some (sym c.remove-row.ensures.value) ∙ sym c.if-is_some.ensures))

pub invariant_of-self-else-is_some : goal.invariant_of-self-else-is_some
invariant_of-self-else-is_some c =
    let t = c.self.inside in
    let vacant = sym c.remove-row.ensures.value ∙ none_there c.remove-row.result c.if-is_some.ensures in
    subst (λ (slots : List (Option Row)). AreRows t.sup slots t.used) (set_none t.rows.slots c.args.inode vacant ∙ sym c.remove-row.ensures.values) c.self.invariant

pub returns-then-is_some-clause-sup : goal.returns-then-is_some-clause-sup
returns-then-is_some-clause-sup c = ap (λ (l : RowList). l.sup) c.self.view_is

pub returns-then-is_some-clause-sizes : goal.returns-then-is_some-clause-sizes
returns-then-is_some-clause-sizes c = c.remove.ensures.sizes ∙ ap (λ (l : RowList). l.sizes) c.self.view_is

pub returns-then-is_some-clause-room : goal.returns-then-is_some-clause-room
returns-then-is_some-clause-room c = subst (λ (l : RowList). l.room ≤ c.remove-row.new.self.room) c.self.view_is c.remove-row.ensures.room

pub returns-then-is_some-clause-freed : goal.returns-then-is_some-clause-freed
returns-then-is_some-clause-freed c = subst (λ (l : RowList). OnSome c.remove-row.result (c.remove-row.new.self.room ≡ l.room + 1)) c.self.view_is c.remove-row.ensures.freed

pub returns-else-is_some-clause-number : goal.returns-else-is_some-clause-number
returns-else-is_some-clause-number c =
    let t = c.self.inside in
    number_out t.rows.slots c.args.inode (IsTableNumber t.sup.cpus t.used.sizes) c.remove-row.result c.remove-row.ensures.value c.self.invariant.stand c.self.invariant.tells.within

pub returns-else-is_some-clause-unchanged : goal.returns-else-is_some-clause-unchanged
returns-else-is_some-clause-unchanged c none =
    let slots = c.self.inside.rows.slots in
    let vacant = sym (row_at_slot slots c.args.inode c.self.invariant.stand) ∙ rw (← c.self.view_is) at none in
    rw (← c.self.view_is, c.remove-row.ensures.values) (ap rows_in (sym (set_none slots c.args.inode vacant)))

pub returns-else-is_some-clause-sup : goal.returns-else-is_some-clause-sup
returns-else-is_some-clause-sup c = ap (λ (l : RowList). l.sup) c.self.view_is

pub returns-else-is_some-clause-sizes : goal.returns-else-is_some-clause-sizes
returns-else-is_some-clause-sizes c = ap (λ (l : RowList). l.sizes) c.self.view_is

pub returns-else-is_some-clause-room : goal.returns-else-is_some-clause-room
returns-else-is_some-clause-room c = subst (λ (l : RowList). l.room ≤ c.remove-row.new.self.room) c.self.view_is c.remove-row.ensures.room

pub returns-else-is_some-clause-freed : goal.returns-else-is_some-clause-freed
returns-else-is_some-clause-freed c = subst (λ (l : RowList). OnSome c.remove-row.result (c.remove-row.new.self.room ≡ l.room + 1)) c.self.view_is c.remove-row.ensures.freed

use Rattle.std.proofs.Common.{◌<◌, ◌^◌, ◌∙◌, ℕ, List, ap, arith, length, subst, sym}
use Rattle.nv_inode.specs.Numbers.{number_end}
use Rattle.nv_inode.proofs.NumberEnds.{sizes_long}
use Rattle.nv_numbered.specs.Values.{AreNumbersBelow}
use Rattle.nv_rows.specs.Unused.{HaveSlots}
use Rattle.nv_rows.proofs.Early.{if_ok_err}
use Rattle.nv_rows.proofs.GivenRows.{many_numbers, number_is, given_stand, given_sorted}
use Rattle.nv_rows.proofs.UsedRows.{slots_below, TellsUsed-given}
use Rattle.nv_rows.proofs.rows.Rows.from_rows.Goals as goal

pub numbers_of-requires : goal.numbers_of-requires
numbers_of-requires c k d inside =
    let l = c.args.tables.now.layout in
    let small : number_end l < 2 ^ 32 = subst (λ (end : ℕ). end < 2 ^ 32) c.number_end-end.ensures.value c.number_end-end.ensures.small in
    number_is (λ (i : ℕ). i < 2 ^ 32) c.args.rows.items (λ j there. (let below = (slots_below l c.are_laid.ensures c.requires).below j there in omega (arith, small, below))) k d inside

pub invariant_of-result : goal.invariant_of-result
invariant_of-result c =
    let l = c.args.tables.now.layout in
    let rows = c.args.rows.items in
    let slots = c.in_ok-from_values.field-0.slots in
    let each = rw (c.in_ok-numbers.ensures, c.into_rows.ensures) at c.in_ok-from_values.ensures.values in
    let had = rw (c.deref.ensures.value, c.in_ok-numbers.ensures) at c.in_ok-used.ensures.numbers in
    rw (c.sup.ensures)
    (record {
      layout = c.are_laid.ensures.layout;
      cpus = ap length c.in_ok-used.ensures.sizes ∙ sizes_long l;
      stand = given_stand rows slots each;
      tells = rw (c.in_ok-used.ensures.sizes) (TellsUsed-given l c.are_laid.ensures rows slots c.in_ok-used.used.sets (c.in_ok-from_values.ensures.limit ∙ c.number_end-end.ensures.value) (many_numbers rows) each c.requires had);
    })

pub returns-clause-rows : goal.returns-clause-rows
returns-clause-rows c =
    given_sorted c.args.rows.items c.in_ok-from_values.field-0.slots
    (rw (c.in_ok-numbers.ensures, c.into_rows.ensures) at c.in_ok-from_values.ensures.values)

pub used_by-requires : goal.used_by-requires
used_by-requires c = subst (λ (numbers : List ℕ). HaveSlots c.args.tables.now.layout numbers) (sym (c.deref.ensures.value ∙ c.in_ok-numbers.ensures)) c.requires

pub from_values-requires-clause-as_many : goal.from_values-requires-clause-as_many
from_values-requires-clause-as_many c = ap length c.into_rows.ensures ∙ sym (ap length (c.in_ok-numbers.ensures) ∙ many_numbers c.args.rows.items)

pub from_values-requires-clause-numbers : goal.from_values-requires-clause-numbers
from_values-requires-clause-numbers c =
    let l = c.args.tables.now.layout in
    subst (λ (limit : ℕ). AreNumbersBelow limit c.in_ok-numbers.numbers.items) (sym c.number_end-end.ensures.value)
    (subst (λ (numbers : List ℕ). AreNumbersBelow (number_end l) numbers) (sym (c.in_ok-numbers.ensures)) (slots_below l c.are_laid.ensures c.requires))

pub returns-clause-sup : goal.returns-clause-sup
returns-clause-sup c = c.sup.ensures

pub returns-clause-sizes : goal.returns-clause-sizes
returns-clause-sizes c = c.in_ok-used.ensures.sizes

pub returns-in_err-numbers-clause-rows : goal.returns-in_err-numbers-clause-rows
returns-in_err-numbers-clause-rows c = if_ok_err c.from_residual.result _ c.from_residual.ensures.0

pub returns-in_err-numbers-clause-sup : goal.returns-in_err-numbers-clause-sup
returns-in_err-numbers-clause-sup c = if_ok_err c.from_residual.result _ c.from_residual.ensures.0

pub returns-in_err-numbers-clause-sizes : goal.returns-in_err-numbers-clause-sizes
returns-in_err-numbers-clause-sizes c = if_ok_err c.from_residual.result _ c.from_residual.ensures.0

pub returns-in_err-used-clause-rows : goal.returns-in_err-used-clause-rows
returns-in_err-used-clause-rows c = if_ok_err c.from_residual-in_err-used.result _ c.from_residual-in_err-used.ensures.0

pub returns-in_err-used-clause-sup : goal.returns-in_err-used-clause-sup
returns-in_err-used-clause-sup c = if_ok_err c.from_residual-in_err-used.result _ c.from_residual-in_err-used.ensures.0

pub returns-in_err-used-clause-sizes : goal.returns-in_err-used-clause-sizes
returns-in_err-used-clause-sizes c = if_ok_err c.from_residual-in_err-used.result _ c.from_residual-in_err-used.ensures.0

pub returns-in_err-from_values-clause-rows : goal.returns-in_err-from_values-clause-rows
returns-in_err-from_values-clause-rows c = if_ok_err c.from_residual-in_err-from_values.result _ c.from_residual-in_err-from_values.ensures.0

pub returns-in_err-from_values-clause-sup : goal.returns-in_err-from_values-clause-sup
returns-in_err-from_values-clause-sup c = if_ok_err c.from_residual-in_err-from_values.result _ c.from_residual-in_err-from_values.ensures.0

pub returns-in_err-from_values-clause-sizes : goal.returns-in_err-from_values-clause-sizes
returns-in_err-from_values-clause-sizes c = if_ok_err c.from_residual-in_err-from_values.result _ c.from_residual-in_err-from_values.ensures.0

use Rattle.std.proofs.Common.{ℕ, ◌∙◌, ◌+◌, ◌*◌, replicate, refl, ap, arith}
use Rattle.std.proofs.lemmas.Result.{err_from_is_err_and}
use Rattle.nv_claimmap.proofs.Keeping.{opens}
use Rattle.nv_claimmap.proofs.map.ClaimMap.open.Goals as goal

pub of_words-requires : goal.of_words-requires
of_words-requires c = opens c.args.sizes _ (c.as_slice.ensures.value ∙ (c.in_ok-zeros.ensures.items_if_clones_equal (λ y h. h) ∙ ap (λ (w : ℕ). replicate w 0) c.table_words.ensures ∙ ap (λ (w : ℕ). replicate (2 * w + 31) 0) c.words_for-words.ensures))

pub seat_all-requires-clause-seat : goal.seat_all-requires-clause-seat
seat_all-requires-clause-seat c = (c.in_ok-table.ensures.2, c.in_ok-table.ensures.4)

pub returns-clause-sizes : goal.returns-clause-sizes
returns-clause-sizes c = refl

pub returns-clause-seats : goal.returns-clause-seats
returns-clause-seats c = c.in_ok-seats.ensures.0

pub returns-clause-count : goal.returns-clause-count
returns-clause-count c = c.in_ok-seats.ensures.1

pub returns-in_err-first-clause-sizes : goal.returns-in_err-first-clause-sizes
returns-in_err-first-clause-sizes c = let w = err_from_is_err_and c.from_residual.result c.from_residual.ensures.1 in rw w.1 tt

pub returns-in_err-first-clause-seats : goal.returns-in_err-first-clause-seats
returns-in_err-first-clause-seats c = let w = err_from_is_err_and c.from_residual.result c.from_residual.ensures.1 in rw w.1 tt

pub returns-in_err-first-clause-count : goal.returns-in_err-first-clause-count
returns-in_err-first-clause-count c = let w = err_from_is_err_and c.from_residual.result c.from_residual.ensures.1 in rw w.1 tt

pub returns-in_err-second-clause-sizes : goal.returns-in_err-second-clause-sizes
returns-in_err-second-clause-sizes c = let w = err_from_is_err_and c.from_residual-in_err-second.result c.from_residual-in_err-second.ensures.1 in rw w.1 tt

pub returns-in_err-second-clause-seats : goal.returns-in_err-second-clause-seats
returns-in_err-second-clause-seats c = let w = err_from_is_err_and c.from_residual-in_err-second.result c.from_residual-in_err-second.ensures.1 in rw w.1 tt

pub returns-in_err-second-clause-count : goal.returns-in_err-second-clause-count
returns-in_err-second-clause-count c = let w = err_from_is_err_and c.from_residual-in_err-second.result c.from_residual-in_err-second.ensures.1 in rw w.1 tt

pub returns-in_err-zeros-clause-sizes : goal.returns-in_err-zeros-clause-sizes
returns-in_err-zeros-clause-sizes c = let w = err_from_is_err_and c.from_residual-in_err-zeros.result c.from_residual-in_err-zeros.ensures.1 in rw w.1 tt

pub returns-in_err-zeros-clause-seats : goal.returns-in_err-zeros-clause-seats
returns-in_err-zeros-clause-seats c = let w = err_from_is_err_and c.from_residual-in_err-zeros.result c.from_residual-in_err-zeros.ensures.1 in rw w.1 tt

pub returns-in_err-zeros-clause-count : goal.returns-in_err-zeros-clause-count
returns-in_err-zeros-clause-count c = let w = err_from_is_err_and c.from_residual-in_err-zeros.result c.from_residual-in_err-zeros.ensures.1 in rw w.1 tt

pub returns-in_err-table-clause-sizes : goal.returns-in_err-table-clause-sizes
returns-in_err-table-clause-sizes c = let w = err_from_is_err_and c.from_residual-in_err-table.result c.from_residual-in_err-table.ensures.1 in rw w.1 tt

pub returns-in_err-table-clause-seats : goal.returns-in_err-table-clause-seats
returns-in_err-table-clause-seats c = let w = err_from_is_err_and c.from_residual-in_err-table.result c.from_residual-in_err-table.ensures.1 in rw w.1 tt

pub returns-in_err-table-clause-count : goal.returns-in_err-table-clause-count
returns-in_err-table-clause-count c = let w = err_from_is_err_and c.from_residual-in_err-table.result c.from_residual-in_err-table.ensures.1 in rw w.1 tt

pub returns-in_err-seats-clause-sizes : goal.returns-in_err-seats-clause-sizes
returns-in_err-seats-clause-sizes c = let w = err_from_is_err_and c.from_residual-in_err-seats.result c.from_residual-in_err-seats.ensures.1 in rw w.1 tt

pub returns-in_err-seats-clause-seats : goal.returns-in_err-seats-clause-seats
returns-in_err-seats-clause-seats c = let w = err_from_is_err_and c.from_residual-in_err-seats.result c.from_residual-in_err-seats.ensures.1 in rw w.1 tt

pub returns-in_err-seats-clause-count : goal.returns-in_err-seats-clause-count
returns-in_err-seats-clause-count c = let w = err_from_is_err_and c.from_residual-in_err-seats.result c.from_residual-in_err-seats.ensures.1 in rw w.1 tt

pub invariant_of-map : goal.invariant_of-map
invariant_of-map c = let t = c.in_ok-table.ensures in record {
  key = t.5;
  table_words = omega (arith, t.0, c.as_slice.ensures.len, c.in_ok-zeros.ensures.len, c.table_words.ensures);
  slots = t.1;
  words = c.words_for-words.ensures;
  numbers = c.requires.numbers;
  first_empty = c.in_ok-first.ensures.items;
  first_room = c.in_ok-first.ensures.capacity;
  second_empty = c.in_ok-second.ensures.items;
  second_room = c.in_ok-second.ensures.capacity;
}

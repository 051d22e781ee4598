use Rattle.std.proofs.Common.{◌≡◌, ℕ, ◌+◌, ◌∙◌, ◌-◌, [], sym, ap, arith}
use Rattle.std.proofs.lemmas.Result.{err_from_is_err_and}
use Rattle.atomic_table.specs.Table.{Me}
use Rattle.nv_claimcore.specs.declared.view.View.{View}
use Rattle.nv_claimcore.specs.Claims.{nothing}
use Rattle.nv_claimmap.specs.Held.{map_id, held, fresh}
use Rattle.nv_claimmap.specs.Rule.{one_less}
use Rattle.nv_claimmap.proofs.Keeping.{cut_allowed}
use Rattle.nv_claimmap.proofs.Seats.{fresh_more}
use Rattle.nv_claimmap.proofs.seat.seat_all.Goals as goal

pub returns-in_err-seats : goal.returns-in_err-seats
returns-in_err-seats c = let w = err_from_is_err_and c.from_residual.result c.from_residual.ensures.1 in rw w.1 tt

pub split_seat-seat-requires : goal.split_seat-seat-requires
split_seat-seat-requires c = let l = c.loop-number.invariant in let more = c.loop-number-test.true in (
  l.2,
  c.requires.table.1,
  cut_allowed c.args.shared.now.key _ ((c.args.sizes.workers - c.loop-number.number) - 1) _ (ap (λ m. m.0) l.3 ∙ ap nothing (omega arith)),
)

pub new-requires : goal.new-requires
new-requires c = c.split_seat-seat.ensures.4

pub loop-number-preserved : goal.loop-number-preserved
loop-number-preserved c =
    let l = c.loop-number.invariant in let cut = c.split_seat-seat.ensures in let more = c.loop-number-test.true in
    let left : (c.args.sizes.workers - c.loop-number.number) - 1 ≡ c.args.sizes.workers - (c.loop-number.number + 1) = omega arith in
    let long = l.5 in let one = c.push_reserved.ensures.len in let room = l.6 in let kept = c.push_reserved.ensures.capacity in (
      omega arith,
      l.1,
      cut.0 ∙ l.2,
      cut.2 ∙ ap (λ (m : Me ℕ View). (one_less m.0, m.1)) l.3 ∙ ap (λ n. (nothing n, [])) left,
      fresh_more (map_id c.args.shared.now.table_id c.args.sizes) c.loop-number.number c.loop-number.seats.items c.push_reserved.new.self.items c.new.result l.4
          (c.new.ensures ∙ ap (λ t. held (map_id t c.args.sizes) c.loop-number.number (nothing 1)) (cut.3 ∙ l.2)) c.push_reserved.ensures.items,
      omega arith,
      omega arith,
    )

pub new-requires-2 : goal.new-requires-2
new-requires-2 c =
    let l = c.loop-number.invariant in let done = c.loop-number-test.false in
    let one : c.args.sizes.workers - c.loop-number.number ≡ 1 = omega arith in
    l.3 ∙ ap (λ n. (nothing n, [])) one

pub returns : goal.returns
returns c =
    let l = c.loop-number.invariant in let done = c.loop-number-test.false in let map = map_id c.args.shared.now.table_id c.args.sizes in
    let all : c.loop-number.number ≡ c.args.sizes.workers - 1 = omega arith in
    let every : c.loop-number.number + 1 ≡ c.args.sizes.workers = omega arith in
    let long = l.5 in let one = c.push_reserved-2.ensures.len in (
      fresh_more map c.loop-number.number c.loop-number.seats.items c.push_reserved-2.new.self.items c.new-2.result l.4
          (c.new-2.ensures ∙ ap (λ t. held (map_id t c.args.sizes) (c.args.sizes.workers - 1) (nothing 1)) l.2 ∙ ap (λ k. held map k (nothing 1)) (sym all)) c.push_reserved-2.ensures.items
          ∙ ap (fresh map) every,
      omega arith,
    )

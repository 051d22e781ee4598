use Rattle.std.proofs.Common.{◌≡◌, ℕ, ◌<◌, List, length, get_or, set, sym, ap, ◌∙◌, arith}
use Rattle.nv_claimcore.specs.declared.view.Record.{Record}
use Rattle.nv_claimcore.specs.declared.view.View.{View}
use Rattle.nv_claimcore.specs.Claims.{place_of, mark, mark_first, with_mark}
use Rattle.nv_claimcore.proofs.UnmarkedAt.{mark_at, none_at}
use Rattle.nv_claimcore.proofs.worker.Worker.mark.Goals as goal

pub returns-then-place-len : goal.returns-then-place-len
returns-then-place-len c =
    let rs : List Record = c.self.inside.records.items in
    let place : c.first_unmarked-place.result ≡ place_of c.args.block c.self.inside.records.items = c.first_unmarked-place.ensures ∙ ap (place_of c.args.block) c.as_slice.ensures.value in
    let long : length c.self.inside.records.items ≡ c.len.result = sym (ap length c.as_slice.ensures.value) ∙ (c.as_slice.ensures.len ∙ sym c.len.ensures) in
    let test = c.if-place-len.true in
    let here : place_of c.args.block c.self.inside.records.items < length c.self.inside.records.items = omega arith in
    let write : set c.self.inside.records.items c.first_unmarked-place.result (mark c.index_mut.result.now) ≡ mark_first c.args.block c.self.inside.records.items =
    (λ i. set c.self.inside.records.items (place i) (mark (c.index_mut.ensures.value i))) ∙ (ap (λ (k : ℕ). set c.self.inside.records.items (place_of c.args.block c.self.inside.records.items) (mark (get_or c.self.inside.records.items k c.index_mut.result.now))) place ∙ sym (mark_at c.args.block c.self.inside.records.items c.index_mut.result.now here))
    in ap (λ (xs : List Record). record { seats = 1; numbers = c.self.inside.numbers.items; records = xs }) write ∙ ap (λ (v : View). with_mark v c.args.block) c.self.view_is

pub returns-else-place-len : goal.returns-else-place-len
returns-else-place-len c =
    let place : c.first_unmarked-place.result ≡ place_of c.args.block c.self.inside.records.items = c.first_unmarked-place.ensures ∙ ap (place_of c.args.block) c.as_slice.ensures.value in
    let long : length c.self.inside.records.items ≡ c.len.result = sym (ap length c.as_slice.ensures.value) ∙ (c.as_slice.ensures.len ∙ sym c.len.ensures) in
    let test = c.if-place-len.false in
    sym c.self.view_is ∙ (ap (λ (xs : List Record). record { seats = 1; numbers = c.self.inside.numbers.items; records = xs }) (sym (none_at c.args.block c.self.inside.records.items (omega arith))) ∙ ap (λ (v : View). with_mark v c.args.block) c.self.view_is)
